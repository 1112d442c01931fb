-- What a list of words begins with can be told: of phrases made of others, from what can be told of their parts.
use Rattle.std.proofs.Common.{◌≡◌, ℕ, ◌<◌, ◌≤◌, ◌⊎◌, List, [], ◌∷◌, length, Option, None, Some, IfSome, refl, inl, inr, le_refl, zero, suc, arith}
use Rattle.c_tree.specs.declared.keywords.Keyword.TheVariants as keyword
use Rattle.c_tree.specs.declared.signs.Sign.TheVariants as sign
use Rattle.c_tree.specs.declared.words.Token.{Token}
use Rattle.c_tree.specs.declared.words.Word.{Word}
use Rattle.c_tree.specs.declared.words.Word.TheVariants as word
use Rattle.c_tree.specs.Reading.{Front, front_of, Begins, Best, Never, Each}
use Rattle.c_tree.specs.Reading.Front.{front}
use Rattle.c_expr.specs.Looking.{Lacks}
use Rattle.c_expr.proofs.Begins.{begins_shrinks}
use Rattle.c_expr.proofs.Looks.{Sees}
use Rattle.c_decl.specs.Sequences.{Then, Before, Ended, Given, Many}
use Rattle.c_decl.proofs.Loops.{once_none, once_on, many_none, many_some}
use Rattle.c_decl.proofs.Sequences.{then_none, then_is, before_lacks, before_is, ended_lacks, ended_is, given_is}

-- the answer, if there is one, leaves fewer than n words
abbrev pub Fewer : {X : Type 0} → ℕ → Option (X × List Token) → Type 0
Fewer n o = IfSome o (λ a. length a.1 < n)

-- the longest phrase at w, which leaves fewer than n words, or that there is none
abbrev pub Behind : {X : Type 0} → (List Token → List Token → X → Type 0) → (List Token → Type 0) → List Token → ℕ → Type 0
Behind {X} R goes w n = (o : Option (X × List Token)) × Best (R w) goes o × Fewer n o

-- the longest phrase at w, which takes words away, or that there is none
abbrev pub Found : {X : Type 0} → (List Token → List Token → X → Type 0) → (List Token → Type 0) → List Token → Type 0
Found R goes w = Behind R goes w (length w)

-- the longest phrase at w, where there is one in any case
abbrev pub Held : {X : Type 0} → (List Token → List Token → X → Type 0) → (List Token → Type 0) → List Token → Type 0
Held {X} R goes w = (a : X × List Token) × Best (R w) goes (Some a) × (length a.1 ≤ length w)

pub fewer_more : {X : Type 0} (n m : ℕ) (o : Option (X × List Token)) → n ≤ m → Fewer n o → Fewer m o
fewer_more n m None h f = tt
fewer_more n m (Some a) h f = omega (arith, f)

pub behind_more : {X : Type 0} (R : List Token → List Token → X → Type 0) (goes : List Token → Type 0) (w : List Token) (n m : ℕ) → n ≤ m → Behind R goes w n → Behind R goes w m
behind_more R goes w n m h (o, best, f) = (o, best, fewer_more n m o h f)

pub never : {X Z : Type 0} (B : X → List Token → List Token → Z → Type 0) (y : X) (q v : List Token) (z : Z) → Never q → B y q v z → ⊥
never B y q v z n b = n

-- ---- a phrase behind another, behind a word, a word that ends one, and none
pub then_found : {X Z : Type 0} (A : List Token → List Token → X → Type 0) (B : X → List Token → List Token → Z → Type 0) (goes more : List Token → Type 0) (w : List Token) (n m : ℕ)
    → ((y : X) (q v : List Token) (z : Z) → goes q → B y q v z → ⊥) → Behind A goes w n → ((x : X) (u : List Token) → length u < n → Behind (B x) more u m) → Behind (Then A B) more w m
then_found A B goes more w n m apart (None, best, f) rest = (None, then_none best, tt)
then_found A B goes more w n m apart (Some a, best, f) rest = let r = rest a.0 a.1 f in let b = r.1 in (r.0, then_is apart best b, r.2)

pub before_found : {Z : Type 0} (R : List Token → List Token → Z → Type 0) (k : Word) (more : List Token → Type 0) (w : List Token) (m : ℕ) → Sees w k
    → ((u : List Token) → length u < length w → Behind R more u m) → Behind (Before k R) more w m
before_found R k more w m (inl (u, b)) rest = let r = rest u (begins_shrinks w b) in (r.0, before_is b r.1, r.2)
before_found R k more w m (inr lacks) rest = (None, before_lacks lacks, tt)

pub ended_found : {Z : Type 0} (k : Word) (x : Z) (w : List Token) (m : ℕ) → length w ≤ m → Sees w k → Behind (Ended k x) Never w m
ended_found k x w m h (inl (u, b)) = let fewer = begins_shrinks w b in (Some (x, u), ended_is b, omega arith)
ended_found k x w m h (inr lacks) = (None, ended_lacks lacks, tt)

pub given_found : {Z : Type 0} (x : Z) (w : List Token) (m : ℕ) → length w < m → Behind (Given x) Never w m
given_found x w m h = (Some (x, w), given_is, h)

-- ---- any number of phrases, and one or more
chain_step : {X : Type 0} (R : List Token → List Token → X → Type 0) (starts : List Token → Type 0) → ((w v : List Token) (x : X) → R w v x → starts w) → (w : List Token)
    → ((u : List Token) → length u < length w → Held {X = List X} (Each R) starts u) → Found R Never w → Held {X = List X} (Each R) starts w
chain_step R starts starting w rest (None, best, f) = (([], w), once_none R starts starting w best, le_refl (length w))
chain_step R starts starting w rest (Some a, best, f) =
    let more = rest a.1 f in
    let size = more.2 in
    ((a.0 ∷ more.0.0, more.0.1), once_on R starts starting w a.1 a.0 more.0 f more.2 best more.1, omega (arith, f))

chain_by : {X : Type 0} (R : List Token → List Token → X → Type 0) (starts : List Token → Type 0) → ((w v : List Token) (x : X) → R w v x → starts w) → ((w : List Token) → Found R Never w)
    → (n : ℕ) (w : List Token) → length w < n → Held {X = List X} (Each R) starts w
chain_by R starts starting one zero w h = absurd (omega arith)
chain_by R starts starting one (suc n) w h = chain_step R starts starting w (λ u fewer. chain_by R starts starting one n u (omega arith)) (one w)

pub chain_found : {X : Type 0} (R : List Token → List Token → X → Type 0) (starts : List Token → Type 0) → ((w v : List Token) (x : X) → R w v x → starts w)
    → ((w : List Token) → Found R Never w) → (w : List Token) → Held {X = List X} (Each R) starts w
chain_found R starts starting one w = chain_by R starts starting one (suc (length w)) w (omega arith)

pub many_found : {X : Type 0} (R : List Token → List Token → X → Type 0) (starts : List Token → Type 0) → ((w v : List Token) (x : X) → R w v x → length v ≤ length w) → (w : List Token)
    → Held {X = List X} (Each R) starts w → Behind {X = List X} (Many R) starts w (suc (length w))
many_found R starts shrinks w (([], u), best, h) = (None, many_none R starts shrinks w u best, tt)
many_found {X} R starts shrinks w ((x ∷ xs, u), best, h) = (Some (x ∷ xs, u), many_some R starts w u (x ∷ xs) some best, omega (arith, h))
  where
    some : x ∷ xs ≡ [] → ⊥
    some e = cc

-- ---- words
end_by : (w : List Token) (f : Front) → front_of w ≡ f → Sees w (word.Sign sign.Semicolon)
end_by w (front (word.Sign sign.Semicolon) u) h = inl (u, h)
end_by w _ h = inr (λ u b. cc)

pub sees_end : (w : List Token) → Sees w (word.Sign sign.Semicolon)
sees_end w = end_by w (front_of w) refl

assign_by : (w : List Token) (f : Front) → front_of w ≡ f → Sees w (word.Sign sign.Assign)
assign_by w (front (word.Sign sign.Assign) u) h = inl (u, h)
assign_by w _ h = inr (λ u b. cc)

pub sees_assign : (w : List Token) → Sees w (word.Sign sign.Assign)
sees_assign w = assign_by w (front_of w) refl

brace_by : (w : List Token) (f : Front) → front_of w ≡ f → Sees w (word.Sign sign.BraceOpen)
brace_by w (front (word.Sign sign.BraceOpen) u) h = inl (u, h)
brace_by w _ h = inr (λ u b. cc)

pub sees_brace : (w : List Token) → Sees w (word.Sign sign.BraceOpen)
sees_brace w = brace_by w (front_of w) refl

brace_close_by : (w : List Token) (f : Front) → front_of w ≡ f → Sees w (word.Sign sign.BraceClose)
brace_close_by w (front (word.Sign sign.BraceClose) u) h = inl (u, h)
brace_close_by w _ h = inr (λ u b. cc)

pub sees_brace_close : (w : List Token) → Sees w (word.Sign sign.BraceClose)
sees_brace_close w = brace_close_by w (front_of w) refl

if_by : (w : List Token) (f : Front) → front_of w ≡ f → Sees w (word.Keyword keyword.If)
if_by w (front (word.Keyword keyword.If) u) h = inl (u, h)
if_by w _ h = inr (λ u b. cc)

pub sees_if : (w : List Token) → Sees w (word.Keyword keyword.If)
sees_if w = if_by w (front_of w) refl

else_by : (w : List Token) (f : Front) → front_of w ≡ f → Sees w (word.Keyword keyword.Else)
else_by w (front (word.Keyword keyword.Else) u) h = inl (u, h)
else_by w _ h = inr (λ u b. cc)

pub sees_else : (w : List Token) → Sees w (word.Keyword keyword.Else)
sees_else w = else_by w (front_of w) refl

while_by : (w : List Token) (f : Front) → front_of w ≡ f → Sees w (word.Keyword keyword.While)
while_by w (front (word.Keyword keyword.While) u) h = inl (u, h)
while_by w _ h = inr (λ u b. cc)

pub sees_while : (w : List Token) → Sees w (word.Keyword keyword.While)
sees_while w = while_by w (front_of w) refl

union_by : (w : List Token) (f : Front) → front_of w ≡ f → Sees w (word.Keyword keyword.Union)
union_by w (front (word.Keyword keyword.Union) u) h = inl (u, h)
union_by w _ h = inr (λ u b. cc)

pub sees_union : (w : List Token) → Sees w (word.Keyword keyword.Union)
sees_union w = union_by w (front_of w) refl

void_by : (w : List Token) (f : Front) → front_of w ≡ f → Sees w (word.Keyword keyword.Void)
void_by w (front (word.Keyword keyword.Void) u) h = inl (u, h)
void_by w _ h = inr (λ u b. cc)

pub sees_void : (w : List Token) → Sees w (word.Keyword keyword.Void)
sees_void w = void_by w (front_of w) refl

abbrev pub SeesName : List Token → Type 0
SeesName w = ((n : List ℕ) × (u : List Token) × Begins w (word.Name n) u) ⊎ ((n : List ℕ) → Lacks w (word.Name n))

name_by : (w : List Token) (f : Front) → front_of w ≡ f → SeesName w
name_by w (front (word.Name n) u) h = inl (n, u, h)
name_by w _ h = inr (λ n u b. cc)

pub sees_name : (w : List Token) → SeesName w
sees_name w = name_by w (front_of w) refl
