-- The rules of a scenario's lines, one for each form: what the words of a line say. `line_said` computes them.
-- Here: IsNumber, IsValue, AreValues; Says
use Rattle.std.specs.Prelude.{◌≡◌, ℕ, ◌≤◌, true, List, [], ◌∷◌, length, slice_index_or, ℤ, pos, neg_ℤ, codes}
use Rattle.scenario.specs.declared.event.Event.TheVariants as e
use Rattle.scenario.specs.declared.event.KernelEvent.{KernelEvent}
use Rattle.scenario.specs.declared.event.KernelEvent.TheVariants as k
use Rattle.scenario.specs.Numbers.{is_number, value_of, is_name}
use Rattle.scenario.specs.Forms.{Said, nothing, event, answers}

-- A word of decimal digits that stand for a number from `least` to `most`.
pub record IsNumber (least most : ℕ) (word : List ℕ) (n : ℕ) : Type 0 where
  pub digits : is_number word ≡ true
  pub value : value_of word ≡ n
  pub least_ok : least ≤ n
  pub most_ok : n ≤ most

-- A 32-bit signed number, a negative one (or -0) with a minus sign.
pub data IsValue : List ℕ → ℤ → Type 0 where
  plain : {word : List ℕ} {n : ℕ} → IsNumber 0 2147483647 word n → IsValue word (pos n)
  minus : {word : List ℕ} {n : ℕ} → IsNumber 0 2147483648 word n → IsValue (45 ∷ word) (neg_ℤ (pos n))

-- Words that are values, one after another.
pub data AreValues : List (List ℕ) → List ℤ → Type 0 where
  no_value : AreValues [] []
  one_value : {word : List ℕ} {v : ℤ} {words : List (List ℕ)} {vs : List ℤ} → IsValue word v → AreValues words vs → AreValues (word ∷ words) (v ∷ vs)

-- d and the number of a driver, and the number of a task.
pub data NamesDriver (drivers : ℕ) : List ℕ → ℕ → Type 0 where
  driver : {word : List ℕ} {d : ℕ} → IsNumber 1 drivers word d → NamesDriver drivers (100 ∷ word) d

abbrev pub NamesTask : List ℕ → ℕ → Type 0
NamesTask word t = IsNumber 1 8 word t

-- The eight places of a call's arguments: its values, and zeros.
abbrev pub eight : List ℤ → List ℤ
eight vs =
    slice_index_or vs 0 (pos 0) ∷ slice_index_or vs 1 (pos 0) ∷ slice_index_or vs 2 (pos 0) ∷ slice_index_or vs 3 (pos 0)
    ∷ slice_index_or vs 4 (pos 0) ∷ slice_index_or vs 5 (pos 0) ∷ slice_index_or vs 6 (pos 0) ∷ slice_index_or vs 7 (pos 0) ∷ []

-- What `kernel` and these words make the kernel do.
pub data KernelDoes : List (List ℕ) → KernelEvent → Type 0 where
  line : {v : List ℕ} {i : ℤ} → IsValue v i → KernelDoes (codes "line" ∷ v ∷ []) (k.Line i)
  free_line : {v : List ℕ} {i : ℤ} → IsValue v i → KernelDoes (codes "free_line" ∷ v ∷ []) (k.FreeLine i)
  param : {v w : List ℕ} {i j : ℤ} → IsValue v i → IsValue w j → KernelDoes (codes "param" ∷ v ∷ w ∷ []) (k.Param i j)
  clear_param : {v : List ℕ} {i : ℤ} → IsValue v i → KernelDoes (codes "clear_param" ∷ v ∷ []) (k.ClearParam i)
  hold : {v : List ℕ} {i : ℤ} → IsValue v i → KernelDoes (codes "hold" ∷ v ∷ []) (k.Hold i)
  drop_hold : {v : List ℕ} {i : ℤ} → IsValue v i → KernelDoes (codes "drop_hold" ∷ v ∷ []) (k.DropHold i)
  lock : {v : List ℕ} {i : ℤ} → IsValue v i → KernelDoes (codes "lock" ∷ v ∷ []) (k.Lock i)
  unlock : {v : List ℕ} {i : ℤ} → IsValue v i → KernelDoes (codes "unlock" ∷ v ∷ []) (k.Unlock i)

-- What the words of a line say in a scenario of the version, of this many drivers.
pub data Says (version drivers : ℕ) : List (List ℕ) → Said → Type 0 where
  blank : Says version drivers [] nothing
  load : {d t : List ℕ} {i n : ℕ} → NamesDriver drivers d i → NamesTask t n → Says version drivers (codes "load" ∷ d ∷ t ∷ []) (event (e.Load i n 0))
  load_restarts : {d t r : List ℕ} {i n restarts : ℕ} → version ≡ 2 → NamesDriver drivers d i → NamesTask t n → IsNumber 0 100 r restarts
      → Says version drivers (codes "load" ∷ d ∷ t ∷ codes "restarts" ∷ r ∷ []) (event (e.Load i n restarts))
  restart : {d t : List ℕ} {i n : ℕ} → NamesDriver drivers d i → NamesTask t n → Says version drivers (codes "restart" ∷ d ∷ t ∷ []) (event (e.Restart i n))
  unload : {d : List ℕ} {i : ℕ} → NamesDriver drivers d i → Says version drivers (codes "unload" ∷ d ∷ []) (event (e.Unload i))
  call : {d t name : List ℕ} {words : List (List ℕ)} {i n : ℕ} {vs : List ℤ} → NamesDriver drivers d i → NamesTask t n → is_name name ≡ true
      → AreValues words vs → length words ≤ 8 → Says version drivers (codes "call" ∷ d ∷ t ∷ name ∷ words) (event (e.Call i n name (eight vs) (length words)))
  run : {t s : List ℕ} {n steps : ℕ} → NamesTask t n → IsNumber 0 10000000 s steps → Says version drivers (codes "run" ∷ t ∷ s ∷ []) (event (e.Run n steps))
  finish : {t : List ℕ} {n : ℕ} → NamesTask t n → Says version drivers (codes "finish" ∷ t ∷ []) (event (e.Finish n))
  irq : {l : List ℕ} {n : ℕ} → IsNumber 0 63 l n → Says version drivers (codes "irq" ∷ l ∷ []) (event (e.Irq n))
  tick : {w : List ℕ} {n : ℕ} → IsNumber 0 1000000 w n → Says version drivers (codes "tick" ∷ w ∷ []) (event (e.Tick n))
  work : {w : List ℕ} {n : ℕ} → IsNumber 0 256 w n → Says version drivers (codes "work" ∷ w ∷ []) (event (e.Work n))
  answer : {p v : List ℕ} {words : List (List ℕ)} {n : ℕ} {vs : List ℤ} → IsNumber 0 65535 p n → AreValues (v ∷ words) vs → Says version drivers (codes "answer" ∷ p ∷ v ∷ words) (answers n vs)
  kernel : {words : List (List ℕ)} {does : KernelEvent} → KernelDoes words does → Says version drivers (codes "kernel" ∷ words) (event (e.Kernel does))
  show : Says version drivers (codes "show" ∷ []) (event e.Show)
