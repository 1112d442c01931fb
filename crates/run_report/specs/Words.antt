-- The words of printed lines.
-- Here: driver, owner, task, activity; order_word, obstacle_word, state_word, check_word, failure_word; text_said
use Rattle.std.specs.Prelude.{ℕ, ◌==◌, ◌||◌, ◌&&◌, Bool, true, false, nat_le, List, [], ◌∷◌, ◌++◌, take, codes, if◌then◌else◌}
use Rattle.std.specs.Fmt.{decimal}
use Rattle.std.specs.List.{flat_map}
use Rattle.sd_base.specs.declared.actors.Who.{Who}
use Rattle.sd_base.specs.declared.kinds.CheckKind.{CheckKind}
use Rattle.sd_base.specs.declared.kinds.CheckKind.TheVariants as check
use Rattle.sd_base.specs.declared.kinds.FailKind.{FailKind}
use Rattle.sd_base.specs.declared.kinds.FailKind.TheVariants as failure
use Rattle.sd_base.specs.declared.history.BlockState.{BlockState}
use Rattle.sd_base.specs.declared.history.BlockState.TheVariants as state
use Rattle.sd_base.specs.Text.{hexadecimal}
use Rattle.run_report.specs.declared.item.Order.{Order}
use Rattle.run_report.specs.declared.item.Order.TheVariants as order
use Rattle.run_report.specs.declared.item.Obstacle.{Obstacle}
use Rattle.run_report.specs.declared.item.Obstacle.TheVariants as obstacle
use Rattle.run_report.specs.declared.item.Excerpt.{Excerpt}

-- d1 to d4, and k for the kernel
abbrev pub driver : ℕ → List ℕ
driver k = codes "d" ++ decimal k

abbrev pub owner : ℕ → List ℕ
owner o = if o == 0 then codes "k" else driver o

abbrev pub task : ℕ → List ℕ
task t = codes "t" ++ decimal t

-- dK tT
abbrev pub activity : Who → List ℕ
activity who = owner who.owner ++ codes " " ++ task who.task

-- what is ordered
abbrev pub order_word : Order → List ℕ
order_word order.Load = codes "load"
order_word order.Restart = codes "restart"
order_word order.Unload = codes "unload"
order_word order.Call = codes "call"

-- why it is not done
abbrev pub obstacle_word : Obstacle → List ℕ
obstacle_word obstacle.Absent = codes "absent"
obstacle_word obstacle.Loaded = codes "loaded"
obstacle_word obstacle.Failed = codes "failed"
obstacle_word obstacle.NoInit = codes "no init"
obstacle_word obstacle.Busy = codes "busy"
obstacle_word obstacle.NoFunction = codes "no function"
obstacle_word obstacle.Arguments = codes "arguments"

-- what a block is used for
abbrev pub state_word : BlockState → List ℕ
state_word state.Image = codes "image"
state_word state.Live = codes "live"
state_word state.Freed = codes "freed"

-- the kind of a check
abbrev pub check_word : CheckKind → List ℕ
check_word check.Null = codes "Null"
check_word check.Bound = codes "Bound"
check_word check.Align = codes "Align"
check_word check.Term = codes "Term"
check_word check.Tag = codes "Tag"
check_word check.Change = codes "Change"
check_word check.Div = codes "Div"

-- how a step fails
abbrev pub failure_word : FailKind → List ℕ
failure_word (failure.Check kind) = check_word kind
failure_word failure.Stack = codes "Stack"
failure_word failure.Free = codes "Free"
failure_word failure.Port = codes "Port"
failure_word failure.Lock = codes "Lock"
failure_word failure.Relock = codes "Relock"
failure_word failure.Unheld = codes "Unheld"
failure_word failure.Held = codes "Held"
failure_word failure.Masked = codes "Masked"
failure_word failure.Context = codes "Context"

-- bytes from 0x20 to 0x7e but " and \ stand for themselves
abbrev pub is_plain : ℕ → Bool
is_plain b = (nat_le 32 b && nat_le b 126) && (if b == 34 || b == 92 then false else true)

-- a byte of a text: itself, or \ and its two hexadecimal digits
abbrev pub escaped : ℕ → List ℕ
escaped b = if is_plain b then b ∷ [] else 92 ∷ hexadecimal b

-- the bytes of a text between quotes, and a + where there are more
abbrev pub text_said : Excerpt → List ℕ
text_said text = codes "\"" ++ flat_map escaped (take text.len text.bytes) ++ codes "\"" ++ (if text.more then codes "+" else [])
