-- A load and a restart begin from the load state: the memory is that of the image and holds nothing of before, the history has of the driver
-- the grants of the image's blocks alone, in order, and `init` stands at its beginning.
-- Here: load-state
use Rattle.std.proofs.Common.{◌≡◌, ◌≢◌, ℕ, ◌<◌, ◌≤◌, List, [], ◌∷◌, length, Option, Some, None, refl, ap, sym, subst, ◌∙◌}
use Rattle.std.proofs.lemmas.List.{get_or-set_same, get_or-set_other}
use Rattle.sd_base.specs.History.{History}
use Rattle.checked_tree.specs.declared.units.ImageBlock.{ImageBlock}
use Rattle.checked_tree.specs.Step.{started}
use Rattle.world_core.specs.WorldState.{WorldState, Plan, unit_of, bytes_of, with_memory, activity_of}
use Rattle.world_core.specs.Script.{does, updated, without_driver}
use Rattle.world_core.specs.Handling.{running}
use Rattle.world_core.specs.Laws.{image_granted, IsLoadState}
use Rattle.world_core.specs.Loading.{image_grant, grants_image, image_memory, init_of, begins_init, loads}
use Rattle.world_core.proofs.Taking.{of_owner-same, of_owner-other}

grants-all : (driver : ℕ) (image : List ImageBlock) (s : WorldState) →
    does (grants_image driver image) s ≡ record s { history = image_granted s.plan.share driver image s.history }
grants-all driver [] s = refl
grants-all driver (b ∷ bs) s = grants-all driver bs (record s { history = updated s.plan.share driver (image_grant b) s.history })

state-of : (plan : Plan) (driver task : ℕ) (f : Option ℕ) → init_of (unit_of plan driver) ≡ f → (s : WorldState) →
    IsLoadState plan driver task s (does (begins_init plan driver task f) (record s {
      memories = with_memory driver (image_memory (unit_of plan driver)) s.memories;
      history = image_granted s.plan.share driver (unit_of plan driver).image (without_driver driver s.history);
    }))
state-of plan driver task None none s = record {
  memory = λ from to. of_owner-same [] _ s.memories driver from to;
  other_memories = λ other apart. of_owner-other [] _ s.memories driver other apart;
  grants = refl;
  init = λ f is within. cc;
  other_tasks = λ other apart. refl;
}
state-of plan driver task (Some g) some s = record {
  memory = λ from to. of_owner-same [] _ s.memories driver from to;
  other_memories = λ other apart. of_owner-other [] _ s.memories driver other apart;
  grants = refl;
  init = λ f is within. let same : g ≡ f = cc in
      get_or-set_same s.tasks task (running driver (started (unit_of plan driver) g [])) None within
      ∙ ap (λ n. running driver (started (unit_of plan driver) n [])) same;
  other_tasks = λ other apart. get_or-set_other s.tasks task other _ None apart;
}

pub load-state : (plan : Plan) (driver task : ℕ) (s : WorldState) → IsLoadState plan driver task s (does (loads plan driver task) s)
unfolding loads
load-state plan driver task s =
    let filled : WorldState = record s {
      history = without_driver driver s.history;
      memories = with_memory driver (image_memory (unit_of plan driver)) s.memories;
    } in
    subst (λ (w : WorldState). IsLoadState plan driver task s (does (begins_init plan driver task (init_of (unit_of plan driver))) w))
    (sym (grants-all driver (unit_of plan driver).image filled))
    (state-of plan driver task (init_of (unit_of plan driver)) refl s)
