-- From one place among the words of a text to another: the words between, and the pieces of them that the limits bound.
use Rattle.std.proofs.Common.{◌≡◌, ◌+◌, ◌-◌, ◌≤◌, List, [], ◌∷◌, ◌++◌, length, flat_map, false, cond, All, refl, ap, sym, ◌∙◌, subst, append_assoc, append-nil, suc, arith}
use Rattle.std.proofs.lemmas.List.{append_cancel_right}
use Rattle.std.proofs.lemmas.List.Elements.{All-nil, All-cons, All-append}
use Rattle.c_tree.specs.declared.expressions.Expr.{Expr}
use Rattle.c_tree.specs.declared.types.TypeName.{TypeName}
use Rattle.c_tree.specs.declared.words.Token.{Token}
use Rattle.c_tree.specs.declared.words.Word.{Word}
use Rattle.c_tree.specs.ExpressionGrammar.{Row, UnaryExpr}
use Rattle.c_tree.specs.Limits.{is_sign, ends_run, run_of}
use Rattle.c_tree.specs.Reading.{Begins, Each, each_end, each_more}
use Rattle.c_tree.specs.Spelling.{type_words, spelled}
use Rattle.c_tree.specs.TypeGrammar.{TypeNameAt}
use Rattle.c_expr.specs.Tokens.{words_of}
use Rattle.c_expr.proofs.Limited.{Follows, next, run_room, run_more}
use Rattle.c_expr.proofs.Spans.{Span, row_span, unary_span, type_span}
use Rattle.c_expr.proofs.Spelled.{Quiet, quiet_append, Written, row_written, unary_expression_written, type_written}

-- ---- the words between two places
pub record Passage (w v : List Token) (ks : List Word) : Type 0 where
  pub tokens : List Token
  pub parts : w ≡ tokens ++ v
  pub same : words_of tokens ≡ ks

words_append : (a b : List Token) → words_of (a ++ b) ≡ words_of a ++ words_of b
words_append [] b = refl
words_append (t ∷ a) b = ap (λ z. t.word ∷ z) (words_append a b)

pub one_word : (w v : List Token) (k : Word) → Begins w k v → Passage w v (k ∷ [])
one_word [] v k b = cc
one_word (t ∷ w) v k b = let is : t.word ≡ k = cc in let rest : w ≡ v = cc in record { tokens = t ∷ []; parts = ap (λ z. t ∷ z) rest; same = ap (λ z. z ∷ []) is }

pub word_there : {w v : List Token} {k : Word} → Begins w k v → Passage w v (k ∷ [])
word_there {w} {v} {k} b = one_word w v k b

pub no_words : {w : List Token} → Passage w w []
no_words = record { tokens = []; parts = refl; same = refl }

pub both : {w u v : List Token} {s r : List Word} → Passage w u s → Passage u v r → Passage w v (s ++ r)
both {v = v} {s = s} {r = r} p q = record {
  tokens = p.tokens ++ q.tokens;
  parts = p.parts ∙ ap (λ z. p.tokens ++ z) q.parts ∙ sym (append_assoc p.tokens q.tokens v);
  same = words_append p.tokens q.tokens ∙ ap (λ z. z ++ words_of q.tokens) p.same ∙ ap (λ z. s ++ z) q.same;
}

pub spelled_as : {w v : List Token} {s r : List Word} → s ≡ r → Passage w v s → Passage w v r
spelled_as {w} {v} e p = subst (Passage w v) e p

-- the words of a phrase, whose tree determines them
pub phrase : {P : List Token → List Token → Type 0} {w v : List Token} {s : List Word} → Written w v s → Span P w v → Passage w v s
phrase {v = v} {s = s} p q = record {
  tokens = q.words;
  parts = q.parts;
  same = append_cancel_right (words_of q.words) s (words_of v) (sym (words_append q.words v) ∙ ap words_of (sym q.parts) ∙ p.same);
}

-- ---- pieces: words of which only the last may end a run
pub IsPiece : List Word → Type 0
IsPiece [] = Unit {0}
IsPiece (k ∷ []) = Unit {0}
IsPiece (k ∷ j ∷ s) = (is_sign ends_run k ≡ false) × IsPiece (j ∷ s)

piece_more : (k : Word) (s : List Word) → is_sign ends_run k ≡ false → IsPiece s → IsPiece (k ∷ s)
unfolding IsPiece
piece_more k [] e p = tt
piece_more k (j ∷ s) e p = (e, p)

piece_append : (s r : List Word) → Quiet s → IsPiece r → IsPiece (s ++ r)
piece_append [] r q p = p
piece_append (k ∷ s) r q p = piece_more k (s ++ r) q.0 (piece_append s r q.1 p)

one_piece : (k : Word) → IsPiece (k ∷ [])
unfolding IsPiece
one_piece k = tt

no_piece : IsPiece []
unfolding IsPiece
no_piece = tt

quiet_piece : (s : List Word) → Quiet s → IsPiece s
quiet_piece s q = subst IsPiece (append-nil s) (piece_append s [] q no_piece)

-- behind the words a of a text a piece has no more words than a run has room for
piece_length : (a s r : List Token) → Follows a (s ++ r) → IsPiece (words_of s) → length s ≤ 1000 - run_of a
unfolding IsPiece
piece_length a [] r d q = omega arith
piece_length a (k ∷ []) r (next e w d) q = let room = run_room a k.word e in omega arith
piece_length a (k ∷ j ∷ s) r (next e w d) q =
    let room = run_room a k.word e in
    let grows : run_of (a ++ k ∷ []) ≡ run_of a + 1 = run_more a k ∙ ap (λ b. cond b 0 (run_of a + 1)) q.0 in
    let rest = piece_length (a ++ k ∷ []) (j ∷ s) r d q.1 in
    omega arith

length-words_of : (s : List Token) → length (words_of s) ≡ length s
length-words_of [] = refl
length-words_of (t ∷ s) = ap suc (length-words_of s)

-- the words behind the first ones
behind : (a b c : List Token) → Follows a (b ++ c) → Follows (a ++ b) c
behind a [] c d = subst (λ z. Follows z c) (sym (append-nil a)) d
behind a (k ∷ b) c (next p w d) = subst (λ z. Follows z c) (append_assoc a (k ∷ []) b) (behind (a ++ k ∷ []) b c d)

-- ---- words of which none ends a run, and pieces
pub record Calm (w v : List Token) (s : List Word) : Type 0 where
  pub passage : Passage w v s
  pub quiet : Quiet s

pub calm_word : {w v : List Token} {k : Word} → Begins w k v → is_sign ends_run k ≡ false → Calm w v (k ∷ [])
calm_word b e = record { passage = word_there b; quiet = (e, tt) }

pub calm_none : {w : List Token} → Calm w w []
calm_none = record { passage = no_words; quiet = tt }

pub calm_both : {w u v : List Token} {s r : List Word} → Calm w u s → Calm u v r → Calm w v (s ++ r)
calm_both {s = s} {r = r} p q = record { passage = both p.passage q.passage; quiet = quiet_append s r p.quiet q.quiet }

pub calm_as : {w v : List Token} {s r : List Word} → s ≡ r → Calm w v s → Calm w v r
calm_as {w} {v} e p = subst (Calm w v) e p

-- the words of a phrase, whose tree determines them
pub calm : {P : List Token → List Token → Type 0} {w v : List Token} {s : List Word} → Written w v s → Span P w v → Calm w v s
calm p q = record { passage = phrase p q; quiet = p.quiet }

pub calm_row : {w v : List Token} {x : Expr} → Row 0 w v x → Calm w v (spelled x)
calm_row d = calm (row_written d) (row_span d)

pub calm_unary : {w v : List Token} {x : Expr} → UnaryExpr w v x → Calm w v (spelled x)
calm_unary d = calm (unary_expression_written d) (unary_span d)

pub calm_type : {w v : List Token} {t : TypeName} → TypeNameAt w v t → Calm w v (type_words t)
calm_type d = calm (type_written d) (type_span d)

pub record Piece (w v : List Token) (ks : List Word) : Type 0 where
  pub passage : Passage w v ks
  pub piece : IsPiece ks

pub ended : {w v : List Token} {k : Word} → Begins w k v → Piece w v (k ∷ [])
ended {k = k} b = record { passage = word_there b; piece = one_piece k }

pub led : {w u v : List Token} {s r : List Word} → Calm w u s → Piece u v r → Piece w v (s ++ r)
led {s = s} {r = r} p q = record { passage = both p.passage q.passage; piece = piece_append s r p.quiet q.piece }

pub whole : {w v : List Token} {s : List Word} → Calm w v s → Piece w v s
whole {s = s} p = record { passage = p.passage; piece = quiet_piece s p.quiet }

pub piece_as : {w v : List Token} {s r : List Word} → s ≡ r → Piece w v s → Piece w v r
piece_as {w} {v} e p = subst (Piece w v) e p

-- ---- the words between two places, and the pieces among them, which are short in any text
abbrev pub AreShort : List (List Word) → Type 0
AreShort ps = All (λ piece. length piece ≤ 1000) ps

pub record Walk (w v : List Token) (ks : List Word) (ps : List (List Word)) : Type 0 where
  pub passage : Passage w v ks
  pub short : (a : List Token) → Follows a w → AreShort ps

-- words that hold no piece
pub plain_walk : {w v : List Token} {ks : List Word} → Passage w v ks → Walk w v ks []
plain_walk p = record { passage = p; short = λ a f. All-nil (λ piece. length piece ≤ 1000) }

-- a piece
pub piece_walk : {w v : List Token} {ks : List Word} → Piece w v ks → Walk w v ks (ks ∷ [])
piece_walk {w} {v} {ks} p = record {
  passage = p.passage;
  short = λ a f.
      let there = p.passage in
      let size = piece_length a there.tokens v (subst (Follows a) there.parts f) (subst IsPiece (sym there.same) p.piece) in
      let count : length (words_of there.tokens) ≡ length ks = ap length there.same in
      let words = length-words_of there.tokens in
      let few : length ks ≤ 1000 = omega arith in
      All-cons (λ piece. length piece ≤ 1000) ks [] few (All-nil (λ piece. length piece ≤ 1000));
}

further : {w u : List Token} {s : List Word} (ps : List (List Word)) → Passage w u s → ((a : List Token) → Follows a u → AreShort ps) → (a : List Token) → Follows a w → AreShort ps
further {u = u} ps p short a f = short (a ++ p.tokens) (behind a p.tokens u (subst (Follows a) p.parts f))

-- words before a walk, and words behind it
pub before : {w u v : List Token} {s r : List Word} {ps : List (List Word)} → Passage w u s → Walk u v r ps → Walk w v (s ++ r) ps
before {ps = ps} p q = record { passage = both p q.passage; short = further ps p q.short }

pub after : {w u v : List Token} {s r : List Word} {ps : List (List Word)} → Walk w u s ps → Passage u v r → Walk w v (s ++ r) ps
after p q = record { passage = both p.passage q; short = p.short }

-- two walks
pub joined : {w u v : List Token} {s r : List Word} {ps qs : List (List Word)} → Walk w u s ps → Walk u v r qs → Walk w v (s ++ r) (ps ++ qs)
joined {ps = ps} {qs = qs} p q = record {
  passage = both p.passage q.passage;
  short = λ a f. All-append (λ piece. length piece ≤ 1000) ps qs (p.short a f) (further qs p.passage q.short a f);
}

pub walked_as : {w v : List Token} {s r : List Word} {ps qs : List (List Word)} → s ≡ r → ps ≡ qs → Walk w v s ps → Walk w v r qs
walked_as {w} {v} {s} {r} {ps} {qs} e f p = subst (λ z. Walk w v z qs) e (subst (λ z. Walk w v s z) f p)

-- any number of phrases
module _ {X : Type 0} (R : List Token → List Token → X → Type 0) (f : X → List Word) (g : X → List (List Word)) (walks : (w v : List Token) (x : X) → R w v x → Walk w v (f x) (g x)) where
  pub each_walk : {w v : List Token} {xs : List X} → Each R w v xs → Walk w v (flat_map f xs) (flat_map g xs)
  each_walk each_end = plain_walk no_words
  each_walk (each_more {w = w} {u = u} {x = x} d e) = joined (walks w u x d) (each_walk e)
