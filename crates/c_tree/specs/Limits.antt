-- The limits that words meet: how many there are, since `;` or a brace, in open brackets and in a row of unary
-- signs, and how long a name is. Each count is a fold over the words so far.
use Rattle.std.specs.Prelude.{ℕ, ◌+◌, ◌-◌, Bool, true, false, cond, ◌&&◌, List, length, nat_le, nat_lt, fold, Option, Some, None}
use Rattle.c_tree.specs.declared.limits.LimitKind.{LimitKind}
use Rattle.c_tree.specs.declared.limits.LimitKind.TheVariants as limit
use Rattle.c_tree.specs.declared.signs.Sign.{Sign}
use Rattle.c_tree.specs.declared.signs.Sign.TheVariants as sign
use Rattle.c_tree.specs.declared.words.Token.{Token}
use Rattle.c_tree.specs.declared.words.Word.{Word}
use Rattle.c_tree.specs.declared.words.Word.TheVariants as word

-- Whether a word is a sign of this class.
abbrev pub is_sign : (Sign → Bool) → Word → Bool
is_sign class (word.Sign s) = class s
is_sign class _ = false

-- `;`, `{` and `}` end a run of words.
abbrev pub ends_run : Sign → Bool
ends_run sign.Semicolon = true
ends_run sign.BraceOpen = true
ends_run sign.BraceClose = true
ends_run _ = false

-- Opening and closing brackets of the three kinds.
abbrev pub is_opening : Sign → Bool
is_opening sign.BraceOpen = true
is_opening sign.ParenOpen = true
is_opening sign.BracketOpen = true
is_opening _ = false

abbrev pub is_closing : Sign → Bool
is_closing sign.BraceClose = true
is_closing sign.ParenClose = true
is_closing sign.BracketClose = true
is_closing _ = false

-- The signs of unary operators: `- ~ ! + * &`.
abbrev pub is_unary : Sign → Bool
is_unary sign.Minus = true
is_unary sign.Tilde = true
is_unary sign.Exclamation = true
is_unary sign.Plus = true
is_unary sign.Star = true
is_unary sign.Ampersand = true
is_unary _ = false

-- The words since the last `;`, `{` or `}`, or since the start.
abbrev pub run_after : ℕ → Word → ℕ
run_after n k = cond (is_sign ends_run k) 0 (n + 1)

abbrev pub run_of : List Token → ℕ
run_of ws = fold (λ n t. run_after n t.word) 0 ws

-- The open brackets. A closing one of any kind takes one away while there is one.
abbrev pub nesting_after : ℕ → Word → ℕ
nesting_after n k = cond (is_sign is_opening k) (n + 1) (cond (is_sign is_closing k) (n - 1) n)

abbrev pub nesting_of : List Token → ℕ
nesting_of ws = fold (λ n t. nesting_after n t.word) 0 ws

-- The unary signs in a row at the end.
abbrev pub unary_after : ℕ → Word → ℕ
unary_after n k = cond (is_sign is_unary k) (n + 1) 0

abbrev pub unary_of : List Token → ℕ
unary_of ws = fold (λ n t. unary_after n t.word) 0 ws

-- The strings.
abbrev pub strings_after : ℕ → Word → ℕ
strings_after n (word.String b i) = n + 1
strings_after n _ = n

abbrev pub strings_of : List Token → ℕ
strings_of ws = fold (λ n t. strings_after n t.word) 0 ws

-- The bytes of a name, and 0 of other words.
abbrev pub name_length : Word → ℕ
name_length (word.Name b) = length b
name_length _ = 0

-- The first limit that a word passes behind so many words, with these counts.
abbrev pub passed_at : ℕ → ℕ → ℕ → ℕ → Word → Option LimitKind
passed_at words run nesting unary k =
    cond (nat_le 200000 words) (Some limit.Words)
    (cond (nat_le 1000 run) (Some limit.Run)
    (cond (is_sign is_opening k && nat_le 64 nesting) (Some limit.Nesting)
    (cond (is_sign is_unary k && nat_le 16 unary) (Some limit.Unary)
    (cond (nat_lt 63 (name_length k)) (Some limit.Name) None))))

-- The first limit that a word passes behind these.
abbrev pub passed : List Token → Word → Option LimitKind
passed ws k = passed_at (length ws) (run_of ws) (nesting_of ws) (unary_of ws) k
