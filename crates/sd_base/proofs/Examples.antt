-- Worked examples of the rules, computed. The newest entry stands first.
use Rattle.std.proofs.Common.{◌≡◌, true, false, [], ◌∷◌, map, pos, negsuc, Some, None, refl}
use Rattle.sd_base.specs.declared.history.Refusal.TheVariants.{Busy, Bad, HeldBy, NotBlock, Freed, Unheld, NoRoom}
use Rattle.sd_base.specs.declared.history.Update.{Update}
use Rattle.sd_base.specs.declared.history.Update.TheVariants.{Grant, Free, Line, FreeLine, Ports, DropPorts, Param, Timer, Fired, Lock, Unlock, Hold, DropHold, Work, Taken, Mask, Clock}
use Rattle.sd_base.specs.History.{History, entry, net_of, Without}
use Rattle.sd_base.specs.Blocks.{Block, granted}
use Rattle.sd_base.specs.Allowed.{refusal}

abbrev line_5 : History
line_5 = entry 1 (Line (pos 5) 0) ∷ []

a_line_is_granted_once : refusal 1 line_5 2 (Line (pos 5) 0) ≡ Some Busy
a_line_is_granted_once = refl

a_line_out_of_range : refusal 1 line_5 2 (Line (pos 64) 0) ≡ Some Bad
a_line_out_of_range = refl

a_line_below_zero : refusal 1 line_5 2 (Line (negsuc 0) 0) ≡ Some Bad
a_line_below_zero = refl

another's_line_is_not_given_back : refusal 1 line_5 2 (FreeLine (pos 5)) ≡ Some Bad
another's_line_is_not_given_back = refl

a_line_is_free_again : refusal 1 (entry 1 (FreeLine (pos 5)) ∷ line_5) 2 (Line (pos 5) 0) ≡ None
a_line_is_free_again = refl

-- where four owners may hold a line, the fifth is refused, and so is an owner that holds it already
abbrev held_by_four : History
held_by_four = entry 3 (Line (pos 5) 0) ∷ entry 2 (Line (pos 5) 0) ∷ entry 1 (Line (pos 5) 0) ∷ entry 0 (Line (pos 5) 0) ∷ []

a_line_is_shared : refusal 4 line_5 2 (Line (pos 5) 0) ≡ None
a_line_is_shared = refl

an_owner_holds_a_line_once : refusal 4 line_5 1 (Line (pos 5) 0) ≡ Some Busy
an_owner_holds_a_line_once = refl

the_fifth_holder : refusal 4 held_by_four 4 (Line (pos 5) 0) ≡ Some Busy
the_fifth_holder = refl

another_in_its_place : refusal 4 (Without held_by_four 2) 4 (Line (pos 5) 0) ≡ None
another_in_its_place = refl

abbrev lock_3 : History
lock_3 = entry 1 (Lock (pos 3) 1) ∷ []

a_held_lock_names_its_holder : refusal 1 lock_3 2 (Lock (pos 3) 2) ≡ Some (HeldBy (record { owner = 1; task = 1 }))
a_held_lock_names_its_holder = refl

another_task_does_not_unlock : refusal 1 lock_3 1 (Unlock (pos 3) 2) ≡ Some Unheld
another_task_does_not_unlock = refl

-- ranges of ports that touch are apart
abbrev ports_16 : History
ports_16 = entry 1 (Ports (pos 16) (pos 8)) ∷ []

touching_ranges_are_apart : refusal 1 ports_16 2 (Ports (pos 24) (pos 8)) ≡ None
touching_ranges_are_apart = refl

one_common_port : refusal 1 ports_16 2 (Ports (pos 23) (pos 8)) ≡ Some Busy
one_common_port = refl

the_last_port : refusal 1 [] 1 (Ports (pos 65535) (pos 1)) ≡ None
the_last_port = refl

past_the_last_port : refusal 1 [] 1 (Ports (pos 65535) (pos 2)) ≡ Some Bad
past_the_last_port = refl

only_the_whole_range_is_given_back : refusal 1 ports_16 1 (DropPorts (pos 16) (pos 7)) ≡ Some Bad
only_the_whole_range_is_given_back = refl

-- bases begin at 16 and are multiples of it
abbrev five_bytes : Update
five_bytes = Grant (record { elem = 0; size = 1; nullterm = false }) (pos 5) false

abbrev blocks : History
blocks = entry 1 (Free 16) ∷ entry 1 five_bytes ∷ entry 2 five_bytes ∷ entry 1 five_bytes ∷ []

bases_are_rounded_up : map (λ (b : Block). b.base) (granted blocks 1) ≡ 32 ∷ 16 ∷ []
bases_are_rounded_up = refl

no_block_is_freed_twice : refusal 1 blocks 1 (Free 16) ≡ Some Freed
no_block_is_freed_twice = refl

a_live_block_is_freed : refusal 1 blocks 1 (Free 32) ≡ None
a_live_block_is_freed = refl

another's_block_is_none : refusal 1 blocks 2 (Free 32) ≡ Some NotBlock
another's_block_is_none = refl

no_block_of_no_element : refusal 1 [] 1 (Grant (record { elem = 0; size = 4; nullterm = false }) (pos 0) false) ≡ Some NoRoom
no_block_of_no_element = refl

-- the whole arena but its first 16 bytes
the_greatest_block : refusal 1 [] 1 (Grant (record { elem = 0; size = 4; nullterm = false }) (pos 262140) false) ≡ None
the_greatest_block = refl

too_great_a_block : refusal 1 [] 1 (Grant (record { elem = 0; size = 4; nullterm = false }) (pos 262141) false) ≡ Some NoRoom
too_great_a_block = refl

image_blocks_are_not_freed : refusal 1 (entry 1 (Grant (record { elem = 0; size = 4; nullterm = false }) (pos 1) true) ∷ []) 1 (Free 16) ≡ Some NotBlock
image_blocks_are_not_freed = refl

-- what a net list keeps
a_parameter_takes_the_place_of_the_older :
    net_of (entry 1 (Param (pos 7) (pos 2)) ∷ entry 2 (Param (pos 7) (pos 3)) ∷ entry 1 (Line (pos 5) 0) ∷ entry 1 (Param (pos 7) (pos 1)) ∷ []) 1
    ≡ Param (pos 7) (pos 2) ∷ Line (pos 5) 0 ∷ []
a_parameter_takes_the_place_of_the_older = refl

a_hold_let_go_ends_the_latest :
    net_of (entry 1 (DropHold (pos 4)) ∷ entry 1 (Hold (pos 4)) ∷ entry 1 (Hold (pos 5)) ∷ entry 1 (Hold (pos 4)) ∷ []) 1
    ≡ Hold (pos 5) ∷ Hold (pos 4) ∷ []
a_hold_let_go_ends_the_latest = refl

a_taken_item_is_the_oldest : net_of (entry 1 Taken ∷ entry 1 (Work 1 (pos 8)) ∷ entry 1 (Work 1 (pos 7)) ∷ []) 1 ≡ Work 1 (pos 8) ∷ []
a_taken_item_is_the_oldest = refl

the_front_is_another's : refusal 1 (entry 2 (Work 1 (pos 8)) ∷ entry 1 (Work 1 (pos 7)) ∷ []) 2 Taken ≡ Some Bad
the_front_is_another's = refl

a_freed_block_stays_in_the_net_list : net_of blocks 1 ≡ Free 16 ∷ five_bytes ∷ five_bytes ∷ []
a_freed_block_stays_in_the_net_list = refl

the_clock_goes_on : refusal 1 (entry 0 (Clock 9) ∷ []) 0 (Clock 8) ≡ Some Bad
the_clock_goes_on = refl

a_mask_is_held_once : refusal 1 (entry 1 (Mask 1) ∷ []) 1 (Mask 1) ≡ Some Busy
a_mask_is_held_once = refl

a_timer_fires_once : refusal 1 (entry 1 (Fired (pos 3)) ∷ entry 1 (Timer (pos 3) 9 0 (pos 0)) ∷ []) 1 (Fired (pos 3)) ≡ Some Bad
a_timer_fires_once = refl

-- an owner left out
nothing_is_left_of_one : Without blocks 1 ≡ entry 2 five_bytes ∷ []
nothing_is_left_of_one = refl
