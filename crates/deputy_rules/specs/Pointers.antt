-- Pointers: addresses, strings, and sums of a pointer and an integer, each with its checks.
use Rattle.std.specs.Prelude.{ℕ, Bool, true, false, not, ◌&&◌, ◌==◌, if◌then◌else◌, List, [], ◌∷◌, ◌++◌, ℤ, pos, neg_ℤ, Option, Some, None}
use Rattle.std.specs.Prelude.{is_none, option_map, slice_get}
use Rattle.sd_base.specs.declared.kinds.CheckKind.TheVariants as kind
use Rattle.checked_tree.specs.declared.expressions.CheckedExpr.TheVariants as form
use Rattle.checked_tree.specs.declared.expressions.PointerSum.{PointerSum}
use Rattle.checked_tree.specs.declared.expressions.PointerSum.TheVariants as pointer_sum
use Rattle.checked_tree.specs.declared.shapes.Member.{Member}
use Rattle.checked_tree.specs.declared.shapes.Scalar.TheVariants as scalar
use Rattle.checked_tree.specs.declared.sums.Sum.{Sum}
use Rattle.checked_tree.specs.declared.units.ImageBlock.{ImageBlock}
use Rattle.deputy_rules.specs.declared.asked.AskedCond.TheVariants as cond
use Rattle.deputy_rules.specs.declared.derived.Derived.{Derived}
use Rattle.deputy_rules.specs.declared.derived.Derived.TheVariants as derived
use Rattle.deputy_rules.specs.declared.derived.Place.{Place}
use Rattle.deputy_rules.specs.declared.derived.Pointed.{Pointed}
use Rattle.deputy_rules.specs.declared.derived.Source.{Source}
use Rattle.deputy_rules.specs.declared.derived.Source.TheVariants as source
use Rattle.deputy_rules.specs.declared.derived.Value.TheVariants as value
use Rattle.deputy_rules.specs.declared.derived.Whole.{Whole}
use Rattle.deputy_rules.specs.declared.derived.Written.{Written}
use Rattle.deputy_rules.specs.declared.derived.Written.TheVariants as written
use Rattle.deputy_types.specs.declared.element.Element.{Element}
use Rattle.deputy_types.specs.declared.element.Element.TheVariants as key
use Rattle.deputy_rules.specs.Context.{Context}
use Rattle.deputy_rules.specs.Deriving.{Deriving, ◌>>=◌, pure, none, ask}
use Rattle.deputy_types.specs.Options.{and_then}
use Rattle.deputy_rules.specs.Places.{not_null, not_below, not_above, is_unsigned, moved_sum, indexed, through_text}
use Rattle.deputy_rules.specs.Sums.{constant, beyond}
use Rattle.deputy_types.specs.Table.{literal, member, member_key, is_tag, is_named, has_names}
use Rattle.deputy_rules.specs.Values.{size_of}

-- a pointer, as a derived expression
abbrev pub pointer : Pointed → Derived
pointer p = derived.Value (value.Pointer p)

-- a string: nullterm, at its first byte. Its address is a constant, the base of its block
abbrev pub string_at : ImageBlock → Derived
string_at b =
    pointer (record {
      form = form.AddressOf (form.Block b.base);
      elem = key.Int scalar.U8;
      nullterm = true;
      sure = true;
      at = constant (pos b.base);
      low = constant (pos b.base);
      high = constant (pos b.base);
    })

unfoldable pub string : Context → ℕ → Option Derived
string ctx k = and_then (literal ctx.table k) (λ n. option_map string_at (slice_get ctx.table.image n))

-- a member that has an address: no arm, no tag, no names in its annotation, and named in none
abbrev pub has_address : Context → ℕ → ℕ → Member → Bool
has_address ctx s m x = is_none x.arm && (not (is_tag ctx.table s m) && (not (has_names x.shape) && not (is_named ctx.table s m)))

unfoldable pub addressed_member : Context → ℕ → ℕ → Option Element
addressed_member ctx s m = and_then (member ctx.table s m) (λ x. if has_address ctx s m x then member_key ctx.table s m else None)

-- the type of a place that has an address: none through a nullterm pointer has
unfoldable pub addressed : Context → Source → Option Element
addressed ctx (source.Element k) = Some k
addressed ctx source.Text = None
addressed ctx (source.Member s m) = addressed_member ctx s m

-- `&l`: `v = lo = a`, `hi = a + s`
abbrev pub address_at : Context → Place → Element → Derived
address_at ctx p k =
    pointer (record {
      form = form.AddressOf p.form;
      elem = k;
      nullterm = false;
      sure = true;
      at = p.at;
      low = p.at;
      high = beyond p.at (pos (size_of ctx k));
    })

unfoldable pub address_of_place : Context → Place → Option Derived
address_of_place ctx p = option_map (λ k. address_at ctx p k) (addressed ctx p.source)

-- no local, union or array has an address
unfoldable pub address_of : Context → Derived → Option Derived
address_of ctx (derived.Place p) = address_of_place ctx p
address_of ctx (derived.Value v) = None
address_of ctx (derived.Local slot) = None
address_of ctx (derived.Array a) = None
address_of ctx (derived.Union u) = None

-- by how many bytes an element moves a pointer
abbrev pub step_size : PointerSum → ℕ → ℤ
step_size pointer_sum.PointerPlus size = pos size
step_size pointer_sum.PlusPointer size = pos size
step_size pointer_sum.PointerMinus size = neg_ℤ (pos size)

-- Bound `lo <=` new `v`, not for `+` with i unsigned; Bound new `v <= hi`, not for `-` with i unsigned
abbrev pub may_fall : PointerSum → Bool → Bool
may_fall pointer_sum.PointerPlus unsigned = not unsigned
may_fall pointer_sum.PlusPointer unsigned = not unsigned
may_fall pointer_sum.PointerMinus unsigned = true

abbrev pub may_rise : PointerSum → Bool → Bool
may_rise pointer_sum.PointerPlus unsigned = true
may_rise pointer_sum.PlusPointer unsigned = true
may_rise pointer_sum.PointerMinus unsigned = not unsigned

-- Null, and the two Bounds
abbrev pub move_checks : Context → PointerSum → Pointed → Whole → Sum → Deriving (List ℕ)
move_checks ctx how p i at =
    not_null ctx p >>= λ a. not_below ctx (may_fall how (is_unsigned i.scalar)) p.low at >>= λ b.
    not_above ctx (may_rise how (is_unsigned i.scalar)) at p.high >>= λ c.
    pure ((a ++ b) ++ c)

-- `e + i`, `i + e`, `e - i`, e not nullterm: `v` moved by `s*i`, same bounds
abbrev pub moved_to : Context → PointerSum → Pointed → Whole → ℕ → Sum → Deriving Derived
moved_to ctx how p i size at =
    move_checks ctx how p i at >>= λ checks.
    pure (pointer (record {
      form = form.Moved how p.form i.form size checks;
      elem = p.elem;
      nullterm = false;
      sure = true;
      at = at;
      low = p.low;
      high = p.high;
    }))

unfoldable pub moved : Context → PointerSum → Pointed → Whole → Deriving Derived
moved ctx how p i = moved_to ctx how p i (size_of ctx p.elem) (moved_sum p.at i (step_size how (size_of ctx p.elem)))

-- the number n, written as such and without suffix
abbrev pub is_written : ℕ → Written → Bool
is_written n (written.Number value plain) = plain && value == n
is_written n (written.Constant z) = false
is_written n written.Other = false

-- Term: the byte at v is not 0
abbrev pub not_ended : Context → Bool → Sum → Deriving (List ℕ)
not_ended ctx false at = pure []
not_ended ctx true at = ask ctx kind.Term (cond.Term at None) >>= λ a. pure (a ∷ [])

-- Null, and for 1 Term
abbrev pub text_checks : Context → Pointed → Whole → Deriving (List ℕ)
text_checks ctx p i = not_null ctx p >>= λ a. not_ended ctx (is_written 1 i.written) p.at >>= λ b. pure (a ++ b)

-- `e + 0`, `e + 1`, e nullterm: `v`, `v + 1`
abbrev pub text_to : Context → Pointed → Whole → ℕ → Sum → Deriving Pointed
text_to ctx p i size at =
    text_checks ctx p i >>= λ checks.
    pure (record {
      form = form.Moved pointer_sum.PointerPlus p.form i.form size checks;
      elem = p.elem;
      nullterm = true;
      sure = true;
      at = at;
      low = at;
      high = at;
    })

unfoldable pub text_moved : Context → Pointed → Whole → Deriving Pointed
text_moved ctx p i = text_to ctx p i (size_of ctx p.elem) (moved_sum p.at i (pos (size_of ctx p.elem)))

abbrev pub text_stepped : Context → Pointed → Whole → Deriving Derived
text_stepped ctx p i = text_moved ctx p i >>= λ q. pure (pointer q)

unfoldable pub text_sum : Context → Pointed → Whole → Deriving Derived
text_sum ctx p i = if is_written 0 i.written then text_stepped ctx p i else (if is_written 1 i.written then text_stepped ctx p i else none)

-- `e[0]`, e nullterm, as `*e`; `e[1]` as `*(e + 1)`
abbrev pub text_second : Context → Pointed → Whole → Deriving Derived
text_second ctx p i = text_moved ctx p i >>= λ q. through_text ctx q

unfoldable pub text_indexed : Context → Pointed → Whole → Deriving Derived
text_indexed ctx p i = if is_written 0 i.written then through_text ctx p else (if is_written 1 i.written then text_second ctx p i else none)

-- `e[i]`
unfoldable pub indexed_by : Context → Pointed → Whole → Deriving Derived
indexed_by ctx p i = if p.nullterm then text_indexed ctx p i else indexed ctx p i
