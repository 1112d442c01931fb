-- What is told of a run: all items, or, once a write has failed, a front part of their lines.
-- Here: Out, out, IsTold, Prints
use Rattle.std.specs.Prelude.{◌≡◌, ℕ, Bool, true, false, List, ◌++◌, Option}
use Rattle.sd_outside.specs.Counts.{Rose}
use Rattle.sd_outside.specs.Sink.{more, IsCut}
use Rattle.run_report.specs.declared.item.Item.{Item}
use Rattle.run_report.specs.Lines.{print}

-- whether a write has failed, after which nothing more is written; the bytes that the report keeps; what the sink has written, where it
-- tells it; and how often the sink has failed
pub record Out : Type 0 where
  pub is_silent : Bool
  pub kept : List ℕ
  pub written : Option (List ℕ)
  pub faults : ℕ

abbrev pub out : Bool → List ℕ → Option (List ℕ) → ℕ → Out
out is_silent kept written faults = record { is_silent = is_silent; kept = kept; written = written; faults = faults }

-- Behind what was told at first, when the sink had failed so often, these items are told: all of them, or a front part where a write has
-- failed since.
abbrev pub TellsWhen : Bool → Out → Option (List ℕ) → ℕ → List Item → Type 0
TellsWhen false o first faults said = (more o.written o.kept ≡ more first (print said)) × (o.faults ≡ faults)
TellsWhen true o first faults said = IsCut o.written (more first (print said)) × Rose faults o.faults

pub record IsTold (o : Out) (first : Option (List ℕ)) (faults : ℕ) (said : List Item) : Type 0 where
  pub tells : TellsWhen o.is_silent o first faults said

-- These items are told behind whatever was told before.
pub record Prints (old new : Out) (items : List Item) : Type 0 where
  pub to : (first : Option (List ℕ)) (faults : ℕ) (said : List Item) → IsTold old first faults said → IsTold new first faults (said ++ items)
