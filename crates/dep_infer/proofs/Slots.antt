-- The table of a function's slots as it is filled, slot by slot.
use Rattle.std.proofs.Common.{◌≡◌, ℕ, ◌+◌, ◌*◌, ◌≤◌, List, ◌++◌, length, map, take, drop, replicate, None, ap, arith, length-append, length-drop, ◌<◌}
use Rattle.std.proofs.lemmas.List.{length-map, length-take}
use Rattle.c_tree.specs.declared.items.Function.{Function}
use Rattle.c_tree.specs.declared.items.Local.{Local}
use Rattle.c_tree.specs.declared.items.Param.{Param}
use Rattle.c_tree.specs.Slots.{Locals, slot_names, hidden_from, hidden_firsts}

-- behind the first parameters
abbrev pub after_params : List Param → ℕ → Locals
after_params ps i = record { names = map (λ (p : Param). p.name) (take i ps); hidden = replicate i None }

-- before the locals that are left
pub record Left (f : Function) (t : Locals) (next : ℕ) (rest : List Local) : Type 0 where
  pub names : t.names ++ map (λ (l : Local). l.name) rest ≡ slot_names f
  pub hidden : t.hidden ++ hidden_from next rest ≡ hidden_firsts f
  pub few : next + 2 * length rest ≤ length f.head.params + 3 * length f.locals

-- how many slots are named so far
pub after_params_few : (t : Locals) (ps : List Param) (i : ℕ) → t ≡ after_params ps i → length t.names ≤ length ps
after_params_few t ps i h =
    let named : length t.names ≡ length (map (λ (p : Param). p.name) (take i ps)) = ap (λ (u : Locals). length u.names) h in
    let mapped = length-map (take i ps) (λ (p : Param). p.name) in
    let taken = length-take i ps in
    omega (arith, named, mapped, taken)

pub left_few : (f : Function) (t : Locals) (next : ℕ) (rest : List Local) → Left f t next rest → length t.names ≤ length f.head.params + length f.locals
left_few f t next rest h =
    let whole : length (t.names ++ map (λ (l : Local). l.name) rest) ≡ length (slot_names f) = ap length h.names in
    let parts = length-append t.names (map (λ (l : Local). l.name) rest) in
    let named = length-append (map (λ (p : Param). p.name) f.head.params) (map (λ (l : Local). l.name) f.locals) in
    let params = length-map f.head.params (λ (p : Param). p.name) in
    let locals = length-map f.locals (λ (l : Local). l.name) in
    omega (arith, whole, parts, named, params, locals)

-- a local that is left needs two hidden slots at most
pub next_few : (f : Function) (t : Locals) (next i : ℕ) (ls : List Local) → Left f t next (drop i ls) → i < length ls → next + 2 ≤ length f.head.params + 3 * length f.locals
next_few f t next i ls h below = let few = h.few in let left = length-drop i ls in omega (arith, few, left, below)
