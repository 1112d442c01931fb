-- The rows of the table on worked examples, computed: each answer of each row, in the order in which they are tested.
use Rattle.std.proofs.Common.{◌≡◌, ℕ, List, [], ◌∷◌, ◌++◌, map, replicate, ℤ, pos, negsuc, Some, None, false, true, refl}
use Rattle.sd_base.specs.declared.actors.Who.{Who}
use Rattle.sd_base.specs.declared.actors.Fat.{Fat}
use Rattle.sd_base.specs.declared.history.Update.{Update}
use Rattle.sd_base.specs.declared.history.Update.TheVariants as update
use Rattle.sd_base.specs.declared.kinds.FailKind.TheVariants as fail
use Rattle.sd_base.specs.History.{History, entry}
use Rattle.byte_memory.specs.Bytes.{bytes_at}
use Rattle.byte_memory.specs.Tested.{Memory}
use Rattle.checked_tree.specs.declared.kernel.KernelName.{KernelName}
use Rattle.checked_tree.specs.declared.kernel.KernelName.TheVariants as kernel
use Rattle.checked_tree.specs.declared.kernel.KernelCall.{KernelCall}
use Rattle.checked_tree.specs.KernelTable.{kernel_row}
use Rattle.checked_tree.specs.Numbers.{converted}
use Rattle.checked_tree.specs.Operands.{null}
use Rattle.device_model.specs.Scripted.{Scripted}
use Rattle.std.specs.List.{range_with_len}
use Rattle.wrappers.specs.declared.call_out.CallOut.TheVariants.{Blocked, Wild}
use Rattle.wrappers.specs.declared.call_out.Saying.TheVariants.{Text, Out}
use Rattle.wrappers.specs.Served.{Served, gives, replies, bad, busy, full, done, does, says, fails, points, grants}
use Rattle.wrappers.specs.Text.{text_from, told}
use Rattle.wrappers.specs.Rows as row
use Rattle.wrappers.specs.Rows.{served, port_taken, elements, block}

-- what three owners have done, the newest first
abbrev some : History
some =
    entry 1 (update.Lock (pos 3) 1)
    ∷ entry 2 (update.Mask 2)
    ∷ entry 1 (update.Param (pos 7) (pos 1))
    ∷ entry 2 (update.Param (pos 7) (pos 2))
    ∷ entry 1 (update.Timer (pos 4) 30 0 (pos 9))
    ∷ entry 1 (update.Free 32)
    ∷ entry 1 (update.Grant (elements 0 4) (pos 3) false)
    ∷ entry 1 (update.Grant (elements 0 4) (pos 2) false)
    ∷ entry 1 (update.Grant (elements 0 12) (pos 1) true)
    ∷ entry 1 (update.Device (pos 8))
    ∷ entry 1 (update.Ports (pos 16) (pos 4))
    ∷ entry 1 (update.Line (pos 5) 0)
    ∷ entry 0 (update.Clock 20)
    ∷ []

-- the driver 1 with one of a kind for each number below n
abbrev each : ℕ → (ℕ → Update) → History
each n u = map (λ k. entry 1 (u k)) (range_with_len 0 n)

abbrev who : ℕ → ℕ → Who
who owner task = record { owner = owner; task = task }

-- blocks: the last of the driver 1 begins at 48 and has 12 bytes

no_block_of_no_element : row.kalloc some 1 0 4 (pos 0) ≡ points null
no_block_of_no_element = refl

no_block_of_fewer : row.kalloc some 1 0 4 (negsuc 0) ≡ points null
no_block_of_fewer = refl

no_block_without_bytes : row.kalloc some 1 0 0 (pos 1) ≡ points null
no_block_without_bytes = refl

the_next_block : row.kalloc some 1 2 12 (pos 2) ≡ grants (record { value = 64; lo = 64; hi = 88 }) (update.Grant (elements 2 12) (pos 2) false)
the_next_block = refl

the_whole_arena : row.kalloc [] 2 0 1 (pos 1048560) ≡ grants (record { value = 16; lo = 16; hi = 1048576 }) (update.Grant (elements 0 1) (pos 1048560) false)
the_whole_arena = refl

past_the_arena : row.kalloc [] 2 0 1 (pos 1048561) ≡ points null
past_the_arena = refl

null_is_freed : row.kfree some 1 0 ≡ done
null_is_freed = refl

an_image_block_is_not_freed : row.kfree some 1 16 ≡ fails fail.Free
an_image_block_is_not_freed = refl

a_freed_block_is_not_freed : row.kfree some 1 32 ≡ fails fail.Free
a_freed_block_is_not_freed = refl

no_block_is_freed_from_within : row.kfree some 1 52 ≡ fails fail.Free
no_block_is_freed_from_within = refl

another's_block_is_not_freed : row.kfree some 2 48 ≡ fails fail.Free
another's_block_is_not_freed = refl

a_block_is_freed : row.kfree some 1 48 ≡ does (update.Free 48)
a_block_is_freed = refl

-- lines

a_line_past_the_last : row.request_line 1 some 1 (pos 64) 0 ≡ bad
a_line_past_the_last = refl

a_line_below_the_first : row.request_line 1 some 1 (negsuc 0) 0 ≡ bad
a_line_below_the_first = refl

a_line_that_is_held : row.request_line 1 some 2 (pos 5) 0 ≡ busy
a_line_that_is_held = refl

a_line_that_the_caller_holds : row.request_line 4 some 1 (pos 5) 0 ≡ busy
a_line_that_the_caller_holds = refl

a_line_with_room_for_another : row.request_line 4 some 2 (pos 5) 0 ≡ does (update.Line (pos 5) 0)
a_line_with_room_for_another = refl

the_last_line : row.request_line 1 some 2 (pos 63) 7 ≡ does (update.Line (pos 63) 7)
the_last_line = refl

another's_line : row.free_line some 2 (pos 5) ≡ bad
another's_line = refl

the_caller's_line : row.free_line some 1 (pos 5) ≡ does (update.FreeLine (pos 5))
the_caller's_line = refl

-- ports

ports_below_the_first : row.request_ports some 1 (negsuc 0) (pos 1) ≡ bad
ports_below_the_first = refl

no_port : row.request_ports some 1 (pos 0) (pos 0) ≡ bad
no_port = refl

ports_past_the_last : row.request_ports some 1 (pos 65535) (pos 2) ≡ bad
ports_past_the_last = refl

ports_past_every_number : row.request_ports some 1 (pos 2147483647) (pos 2147483647) ≡ bad
ports_past_every_number = refl

a_port_of_a_held_range : row.request_ports some 2 (pos 19) (pos 1) ≡ busy
a_port_of_a_held_range = refl

a_33rd_range : row.request_ports (each 32 (λ k. update.Ports (pos k) (pos 1))) 1 (pos 32) (pos 1) ≡ full
a_33rd_range = refl

another_owner's_first_range : row.request_ports (each 32 (λ k. update.Ports (pos k) (pos 1))) 2 (pos 32) (pos 65504) ≡ does (update.Ports (pos 32) (pos 65504))
another_owner's_first_range = refl

a_part_of_a_range : row.release_ports some 1 (pos 16) (pos 3) ≡ bad
a_part_of_a_range = refl

a_whole_range : row.release_ports some 1 (pos 16) (pos 4) ≡ does (update.DropPorts (pos 16) (pos 4))
a_whole_range = refl

-- reads and writes

abbrev devices : Scripted
devices = record { waiting = (16, pos 65) ∷ (19, negsuc 0) ∷ (16, pos 66) ∷ []; room = 0 }

another's_port_is_not_read : row.port_in some devices 2 (pos 16) ≡ fails fail.Port
another's_port_is_not_read = refl

the_port_behind_is_not_read : row.port_in some devices 1 (pos 20) ≡ fails fail.Port
the_port_behind_is_not_read = refl

no_port_is_read : row.port_in some devices 1 (negsuc 0) ≡ fails fail.Port
no_port_is_read = refl

the_oldest_answer : row.port_in some devices 1 (pos 16) ≡ replies (pos 65)
the_oldest_answer = refl

no_answer : row.port_in some devices 1 (pos 17) ≡ replies (pos 0)
no_answer = refl

the_answer_is_taken : row.without_answer (row.port_of some 1 (pos 16)) devices ≡ record { waiting = (19, negsuc 0) ∷ (16, pos 66) ∷ []; room = 0 }
the_answer_is_taken = refl

no_answer_is_taken : row.without_answer (row.port_of some 2 (pos 16)) devices ≡ devices
no_answer_is_taken = refl

another's_port_is_not_written : row.port_out some 2 (pos 16) (pos 1) ≡ fails fail.Port
another's_port_is_not_written = refl

a_port_is_written : row.port_out some 1 (pos 19) (negsuc 6) ≡ says (Out 19 (negsuc 6))
a_port_is_written = refl

-- devices

a_device_past_the_last : row.add_device some 1 (pos 1024) ≡ bad
a_device_past_the_last = refl

a_device_that_is_there : row.add_device some 2 (pos 8) ≡ busy
a_device_that_is_there = refl

a_33rd_device : row.add_device (each 32 (λ k. update.Device (pos k))) 1 (pos 1023) ≡ full
a_33rd_device = refl

a_device : row.add_device some 2 (pos 1023) ≡ does (update.Device (pos 1023))
a_device = refl

another's_device : row.del_device some 2 (pos 8) ≡ bad
another's_device = refl

the_caller's_device : row.del_device some 1 (pos 8) ≡ does (update.DelDevice (pos 8))
the_caller's_device = refl

-- parameters

a_parameter_past_the_last : row.set_param some 1 (pos 256) (pos 0) ≡ bad
a_parameter_past_the_last = refl

a_33rd_parameter : row.set_param (each 32 (λ k. update.Param (pos k) (pos 0))) 1 (pos 32) (pos 0) ≡ full
a_33rd_parameter = refl

a_parameter_anew : row.set_param (each 32 (λ k. update.Param (pos k) (pos 0))) 1 (pos 31) (pos 1) ≡ does (update.Param (pos 31) (pos 1))
a_parameter_anew = refl

no_value_of_the_caller : row.clear_param some 3 (pos 7) ≡ bad
no_value_of_the_caller = refl

a_value_of_the_caller : row.clear_param some 2 (pos 7) ≡ does (update.ClearParam (pos 7))
a_value_of_the_caller = refl

no_parameter : row.get_param some (negsuc 0) ≡ bad
no_parameter = refl

the_value_that_was_set_last : row.get_param some (pos 7) ≡ replies (pos 1)
the_value_that_was_set_last = refl

no_value : row.get_param some (pos 8) ≡ replies (pos 0)
no_value = refl

-- timers: the clock stands at 20

a_timer_past_the_last : row.set_timer some 1 (pos 256) (pos 1) 0 (pos 0) ≡ bad
a_timer_past_the_last = refl

a_timer_at_once : row.set_timer some 1 (pos 4) (pos 0) 0 (pos 0) ≡ bad
a_timer_at_once = refl

a_timer_too_far : row.set_timer some 1 (pos 4) (pos 1000001) 0 (pos 0) ≡ bad
a_timer_too_far = refl

a_65th_timer : row.set_timer (each 64 (λ k. update.Timer (pos k) 1 0 (pos 0))) 1 (pos 64) (pos 1) 0 (pos 0) ≡ full
a_65th_timer = refl

a_timer_anew : row.set_timer (each 64 (λ k. update.Timer (pos k) 1 0 (pos 0))) 1 (pos 63) (pos 1) 0 (pos 0) ≡ does (update.Timer (pos 63) 1 0 (pos 0))
a_timer_anew = refl

a_timer_as_far_as_may_be : row.set_timer some 1 (pos 4) (pos 1000000) 3 (negsuc 0) ≡ does (update.Timer (pos 4) 1000020 3 (negsuc 0))
a_timer_as_far_as_may_be = refl

no_timer : row.del_timer some 2 (pos 4) ≡ bad
no_timer = refl

a_timer : row.del_timer some 1 (pos 4) ≡ does (update.DelTimer (pos 4))
a_timer = refl

the_clock : row.now some ≡ replies (pos 20)
the_clock = refl

-- locks and masks

no_lock : row.lock some (who 2 2) (pos 64) ≡ fails fail.Lock
no_lock = refl

a_lock_under_a_mask : row.lock some (who 2 2) (pos 3) ≡ fails fail.Masked
a_lock_under_a_mask = refl

a_lock_twice : row.lock some (who 1 1) (pos 3) ≡ fails fail.Relock
a_lock_twice = refl

a_lock_of_another_task : row.lock some (who 1 2) (pos 3) ≡ gives (Blocked (pos 3))
a_lock_of_another_task = refl

a_free_lock : row.lock some (who 1 1) (pos 63) ≡ does (update.Lock (pos 63) 1)
a_free_lock = refl

no_lock_to_let_go : row.unlock some (who 1 1) (negsuc 0) ≡ fails fail.Lock
no_lock_to_let_go = refl

another_task's_lock : row.unlock some (who 1 2) (pos 3) ≡ fails fail.Unheld
another_task's_lock = refl

a_lock_let_go : row.unlock some (who 1 1) (pos 3) ≡ does (update.Unlock (pos 3) 1)
a_lock_let_go = refl

a_mask_twice : row.mask some (who 2 2) ≡ fails fail.Relock
a_mask_twice = refl

a_mask : row.mask some (who 2 1) ≡ does (update.Mask 1)
a_mask = refl

no_mask : row.unmask some (who 2 1) ≡ fails fail.Unheld
no_mask = refl

a_mask_let_go : row.unmask some (who 2 2) ≡ does (update.Unmask 2)
a_mask_let_go = refl

-- holds and work

no_domain : row.hold some 1 (pos 64) ≡ bad
no_domain = refl

a_9th_hold : row.hold (each 8 (λ k. update.Hold (pos 2))) 1 (pos 2) ≡ full
a_9th_hold = refl

a_hold_on_another : row.hold (each 8 (λ k. update.Hold (pos 2))) 1 (pos 3) ≡ does (update.Hold (pos 3))
a_hold_on_another = refl

no_hold : row.drop_hold (each 8 (λ k. update.Hold (pos 2))) 2 (pos 2) ≡ bad
no_hold = refl

a_hold_let_go : row.drop_hold (each 8 (λ k. update.Hold (pos 2))) 1 (pos 2) ≡ does (update.DropHold (pos 2))
a_hold_let_go = refl

a_65th_item : row.queue_work (each 64 (λ k. update.Work k (pos 0))) 1 0 (pos 0) ≡ full
a_65th_item = refl

another_owner's_first_item : row.queue_work (each 64 (λ k. update.Work k (pos 0))) 2 1 (pos 8) ≡ does (update.Work 1 (pos 8))
another_owner's_first_item = refl

-- Texts: the 64 bytes from 16 on are granted, and hold a text of three bytes, one of 32, and then no 0.

abbrev memory : Memory
memory = record {
  bytes = replicate 16 0 ++ (65 ∷ 66 ∷ 67 ∷ 0 ∷ []) ++ replicate 32 88 ++ (0 ∷ []) ++ replicate 27 89;
  granted = record { base = 16; size = 64 } ∷ [];
}

a_short_text : row.prints memory 16 ≡ says (Text (told (65 ∷ 66 ∷ 67 ∷ [])))
unfolding text_from bytes_at
a_short_text = refl

a_text_of_32 : row.prints memory 20 ≡ says (Text (record { bytes = replicate 32 88; len = 32; more = false }))
unfolding text_from bytes_at
a_text_of_32 = refl

a_text_without_an_end : row.prints memory 53 ≡ gives Wild
unfolding text_from bytes_at
a_text_without_an_end = refl

a_text_outside : row.prints memory 12 ≡ gives Wild
unfolding text_from bytes_at
a_text_outside = refl

no_text : row.prints memory 0 ≡ says (Text (record { bytes = replicate 32 0; len = 0; more = false }))
no_text = refl

a_text_of_33 : told (replicate 33 88) ≡ record { bytes = replicate 32 88; len = 32; more = true }
a_text_of_33 = refl

-- From a handler, whose task is 0: a lock is refused for that before its number is read, and any other call is served.

abbrev call : KernelName → ℤ → KernelCall
call name arg = record { name = name; args = arg ∷ pos 0 ∷ pos 0 ∷ pos 0 ∷ []; function = 0; elem = 0; size = 0; pointer = null }

a_handler's_lock : served 1 some memory devices (who 1 0) (call kernel.Lock (pos 64)) ≡ fails fail.Context
unfolding served kernel_row converted
a_handler's_lock = refl

a_task's_lock : served 1 some memory devices (who 1 1) (call kernel.Lock (pos 64)) ≡ fails fail.Lock
unfolding served kernel_row converted
a_task's_lock = refl

a_handler's_read : served 1 some memory devices (who 1 0) (call kernel.PortIn (pos 16)) ≡ replies (pos 65)
unfolding served kernel_row converted
a_handler's_read = refl

-- an argument is taken modulo 2^32
a_wide_argument : served 1 some memory devices (who 1 0) (call kernel.PortIn (pos 4294967312)) ≡ replies (pos 65)
unfolding served kernel_row converted
a_wide_argument = refl

a_read_takes_an_answer : port_taken some (who 1 0) (call kernel.PortIn (pos 19)) ≡ Some 19
unfolding port_taken converted
a_read_takes_an_answer = refl

a_write_takes_none : port_taken some (who 1 0) (call kernel.PortOut (pos 19)) ≡ None
unfolding port_taken converted
a_write_takes_none = refl
