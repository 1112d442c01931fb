-- Pointers whose bounds are sums that stay below the machine's limit, whatever numbers of 32 bits their expressions have.
use Rattle.std.specs.Prelude.{◌≡◌, ◌<◌, Bool, Some}
use Rattle.checked_tree.specs.Light.{reach_of}
use Rattle.checked_tree.specs.Numbers.{sum_limit}
use Rattle.deputy_types.specs.declared.element.Element.{Element}
use Rattle.deputy_rules.specs.declared.derived.Derived.{Derived}
use Rattle.deputy_rules.specs.declared.handed.Handed.{Handed}
use Rattle.deputy_rules.specs.Coercion.{handed}
use Rattle.deputy_rules.specs.Context.{Context}

pub record IsLightHanded (h : Handed) : Type 0 where
  pub low : reach_of h.low.parts < sum_limit
  pub high : reach_of h.high.parts < sum_limit

-- so is what was derived, handed over to any type
abbrev pub HandsLightly : Context → Derived → Type 0
HandsLightly ctx d = (key : Element) (nullterm : Bool) (h : Handed) → handed ctx key nullterm d ≡ Some h → IsLightHanded h
