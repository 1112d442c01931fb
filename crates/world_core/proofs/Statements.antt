-- What the statements of the small drivers come to, whatever memory and frames there are: each is computed once.
-- Here: frame, call; prints_seven-first, masks-first, line-first, handler-first, and those behind them
use Rattle.std.specs.Prelude.{◌≡◌, ℕ, List, [], ◌∷◌, ℤ, pos, Ok, Err, Some, None, codes}
use Rattle.sd_base.specs.declared.kinds.CheckKind.TheVariants as kind
use Rattle.sd_base.specs.declared.kinds.FailKind.TheVariants as fail
use Rattle.byte_memory.specs.Tested.{Memory}
use Rattle.checked_tree.specs.declared.stops.Stop.TheVariants.{Failed}
use Rattle.checked_tree.specs.declared.kernel.KernelCall.{KernelCall}
use Rattle.checked_tree.specs.declared.kernel.KernelName.{KernelName}
use Rattle.checked_tree.specs.declared.kernel.KernelName.TheVariants as kernel
use Rattle.checked_tree.specs.declared.statements.CheckedStmt.{CheckedStmt}
use Rattle.checked_tree.specs.declared.units.CheckedUnit.{CheckedUnit}
use Rattle.checked_tree.specs.Operands.{null}
use Rattle.checked_tree.specs.Step as tree
use Rattle.checked_tree.specs.Step.{Frame, Wants, Ended}
use Rattle.checked_tree.proofs.Equations.{at_forms, at_statements}
use Rattle.world_core.proofs.Computing.{computing}
use Rattle.world_core.proofs.Units

-- a frame of a function, with these locals and this to do
abbrev pub frame : ℕ → List ℤ → List CheckedStmt → Frame
frame function locals todo = record { function = function; locals = locals; todo = todo }

-- a kernel call with one number, and a handler
abbrev pub call : KernelName → ℤ → ℕ → KernelCall
call name a handler = record { name = name; args = a ∷ pos 0 ∷ pos 0 ∷ pos 0 ∷ []; function = handler; elem = 0; size = 0; pointer = null }

-- what is behind a first statement, twice a return: the text's and the one that is added
abbrev pub leaves : List CheckedStmt
leaves = Units.returns 1 (pos 0) ∷ Units.returns 1 (pos 0) ∷ []

-- ---- int init(void) { printd(7); return 0; }

abbrev pub seven_todo : List CheckedStmt
seven_todo = Units.asks 1 kernel.Printd (Units.int (Units.number (pos 7)) ∷ []) ∷ leaves

pub prints_seven-first : (m : Memory) →
    tree.step Units.prints_seven (frame 0 [] seven_todo ∷ []) m
    ≡ Ok (Wants (frame 0 [] seven_todo ∷ []) (call kernel.Printd (pos 7) 0))
unfolding computing
prints_seven-first m = simp (at_forms, at_statements)

pub prints_seven-second : (m : Memory) → tree.step Units.prints_seven (frame 0 [] leaves ∷ []) m ≡ Ok (Ended (Some (pos 0)))
unfolding computing
prints_seven-second m = simp (at_forms, at_statements)

-- ---- int init(void) { int z; mask(); z = 1 / z; return 0; }

abbrev pub mask_rest : List CheckedStmt
mask_rest = Units.divides_by_zero 1 ∷ leaves

abbrev pub mask_todo : List CheckedStmt
mask_todo = Units.asks 1 kernel.Mask [] ∷ mask_rest

pub masks-first : (m : Memory) →
    tree.step Units.masks (frame 0 (pos 0 ∷ []) mask_todo ∷ []) m
    ≡ Ok (Wants (frame 0 (pos 0 ∷ []) mask_todo ∷ []) (call kernel.Mask (pos 0) 0))
unfolding computing
masks-first m = simp (at_forms, at_statements)

pub masks-second : (m : Memory) → tree.step Units.masks (frame 0 (pos 0 ∷ []) mask_rest ∷ []) m
    ≡ Err (Failed 1 (fail.Check kind.Div))
unfolding computing
masks-second m = simp (at_forms, at_statements)

-- ---- void h(int l) { printd(l); return; }
--      int init(void) { int r; r = request_line(5, h); printd(r); return 0; }

abbrev pub line_leaves : List CheckedStmt
line_leaves = Units.returns 2 (pos 0) ∷ Units.returns 2 (pos 0) ∷ []

abbrev pub line_rest : List CheckedStmt
line_rest = Units.asks 2 kernel.Printd (Units.int (Units.local 0) ∷ []) ∷ line_leaves

abbrev pub line_todo : List CheckedStmt
line_todo = Units.registers 2 kernel.RequestLine (Units.int (Units.number (pos 5)) ∷ []) 0 ∷ line_rest

pub line-first : (m : Memory) → tree.step Units.serves_line (frame 1 (pos 0 ∷ []) line_todo ∷ []) m
    ≡ Ok (Wants (frame 1 (pos 0 ∷ []) line_todo ∷ []) (call kernel.RequestLine (pos 5) 0))
unfolding computing
line-first m = simp (at_forms, at_statements)

pub line-second : (m : Memory) → tree.step Units.serves_line (frame 1 (pos 0 ∷ []) line_rest ∷ []) m
    ≡ Ok (Wants (frame 1 (pos 0 ∷ []) line_rest ∷ []) (call kernel.Printd (pos 0) 0))
unfolding computing
line-second m = simp (at_forms, at_statements)

pub line-third : (m : Memory) → tree.step Units.serves_line (frame 1 (pos 0 ∷ []) line_leaves ∷ []) m ≡ Ok (Ended (Some (pos 0)))
unfolding computing
line-third m = simp (at_forms, at_statements)

abbrev pub handler_leaves : List CheckedStmt
handler_leaves = Units.returns_nothing 1 ∷ Units.returns_nothing 1 ∷ []

abbrev pub handler_todo : List CheckedStmt
handler_todo = Units.asks 1 kernel.Printd (Units.int (Units.local 0) ∷ []) ∷ handler_leaves

pub handler-first : (m : Memory) → tree.step Units.serves_line (frame 0 (pos 5 ∷ []) handler_todo ∷ []) m
    ≡ Ok (Wants (frame 0 (pos 5 ∷ []) handler_todo ∷ []) (call kernel.Printd (pos 5) 0))
unfolding computing
handler-first m = simp (at_forms, at_statements)

pub handler-second : (m : Memory) → tree.step Units.serves_line (frame 0 (pos 5 ∷ []) handler_leaves ∷ []) m ≡ Ok (Ended None)
unfolding computing
handler-second m = simp (at_forms, at_statements)
