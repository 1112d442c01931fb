-- Words at which a phrase goes on, and words that end it: they are apart.
use Rattle.std.proofs.Common.{◌≡◌, ℕ, List, ap, arith}
use Rattle.c_tree.specs.declared.signs.Sign.{Sign}
use Rattle.c_tree.specs.declared.signs.Sign.TheVariants as sign
use Rattle.c_tree.specs.declared.words.Token.{Token}
use Rattle.c_tree.specs.declared.words.Word.TheVariants as word
use Rattle.c_tree.specs.Reading.{Begins}
use Rattle.c_expr.specs.Classes.{At, is_base, is_in_types}
use Rattle.c_expr.specs.Strength.{front_strength, strength_at, sign_strength, Tighter}
use Rattle.c_expr.proofs.Begins.{in_class}
use Rattle.c_decl.specs.Classes.{is_bracket, is_assign, is_comma, is_field}

-- no row goes on at a sign that binds nothing
pub loose : (s : Sign) (l : ℕ) → sign_strength s ≡ 0 → (q u : List Token) → Begins q (word.Sign s) u → Tighter l q → ⊥
loose s l h q u b g = let at : strength_at q ≡ sign_strength s = ap front_strength b in absurd (omega arith)

pub types_name : (n : List ℕ) (q u : List Token) → Begins q (word.Name n) u → At is_in_types q → ⊥
types_name n q u b g = let clash = in_class is_in_types q b g in cc

pub types_comma : (q u : List Token) → Begins q (word.Sign sign.Comma) u → At is_in_types q → ⊥
types_comma q u b g = let clash = in_class is_in_types q b g in cc

pub bracket_end : (q u : List Token) → Begins q (word.Sign sign.Semicolon) u → At is_bracket q → ⊥
bracket_end q u b g = let clash = in_class is_bracket q b g in cc

pub bracket_assign : (q u : List Token) → Begins q (word.Sign sign.Assign) u → At is_bracket q → ⊥
bracket_assign q u b g = let clash = in_class is_bracket q b g in cc

pub assign_end : (q u : List Token) → Begins q (word.Sign sign.Semicolon) u → At is_assign q → ⊥
assign_end q u b g = let clash = in_class is_assign q b g in cc

pub comma_close : (q u : List Token) → Begins q (word.Sign sign.ParenClose) u → At is_comma q → ⊥
comma_close q u b g = let clash = in_class is_comma q b g in cc

pub base_close : (q u : List Token) → Begins q (word.Sign sign.BraceClose) u → At is_base q → ⊥
base_close q u b g = let clash = in_class is_base q b g in cc

pub field_close : (q u : List Token) → Begins q (word.Sign sign.BraceClose) u → At is_field q → ⊥
field_close q u b g = let clash = in_class is_field q b g in cc
