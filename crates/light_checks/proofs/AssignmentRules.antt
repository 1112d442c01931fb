-- `l = e`: its checks are light.
use Rattle.std.proofs.Common.{◌≡◌, ℕ, ◌+◌, ◌≤◌, ◌^◌, Bool, true, false, map, length, Option, Some, option_map, ℤ, pos, unsigned_abs, refl, sym, ap, ◌∙◌, arith}
use Rattle.std.specs.Option.{option_flatten}
use Rattle.std.proofs.lemmas.Bool.{false≢true}
use Rattle.std.proofs.lemmas.Option.{slice_get-map}
use Rattle.sd_base.specs.declared.kinds.CheckKind.TheVariants as kind
use Rattle.c_tree.specs.declared.expressions.Expr.{Expr}
use Rattle.c_tree.specs.Slots.{hidden_slot}
use Rattle.c_tree.specs.Spelling.{spelled}
use Rattle.checked_tree.specs.declared.shapes.Bounds.{Bounds}
use Rattle.checked_tree.specs.declared.shapes.Bounds.TheVariants as bounds
use Rattle.checked_tree.specs.declared.shapes.Member.{Member}
use Rattle.checked_tree.specs.declared.shapes.Scalar.{Scalar}
use Rattle.checked_tree.specs.declared.shapes.Scalar.TheVariants.{U8}
use Rattle.checked_tree.specs.declared.shapes.Shape.{Shape}
use Rattle.checked_tree.specs.declared.shapes.Shape.TheVariants as shape
use Rattle.deputy_rules.specs.declared.asked.AskedCond.TheVariants.{Term}
use Rattle.deputy_rules.specs.declared.derived.Derived.{Derived}
use Rattle.deputy_rules.specs.declared.derived.Derived.TheVariants as derived
use Rattle.deputy_rules.specs.declared.derived.Place.{Place}
use Rattle.deputy_rules.specs.declared.derived.Source.{Source}
use Rattle.deputy_rules.specs.declared.derived.Source.TheVariants as source
use Rattle.deputy_rules.specs.declared.derived.Whole.{Whole}
use Rattle.deputy_types.specs.declared.element.Element.{Element}
use Rattle.deputy_types.specs.declared.element.Element.TheVariants as element
use Rattle.deputy_rules.specs.declared.handed.Handed.{Handed}
use Rattle.deputy_rules.specs.Assignment.{assign_integer, assign_automatic, assign_annotated, assign_pointer, assign_local, store_counted, store_text, store_integer, store_element, store_byte, store_number, store_pointer, store_member, store_by, store, assign_to, assign}
use Rattle.deputy_rules.specs.Changes.{present, struct_names, shape_of}
use Rattle.deputy_rules.specs.Coercion.{converted_side, handed}
use Rattle.deputy_rules.specs.Context.{Context, slot_shape}
use Rattle.deputy_rules.specs.Deriving.{lift}
use Rattle.deputy_rules.specs.Expressions.{derive}
use Rattle.deputy_types.specs.Keys.{IsKey}
use Rattle.deputy_rules.specs.Sums.{sum_of}
use Rattle.deputy_types.specs.Table.{element_at, member, members_of}
use Rattle.deputy_rules.specs.Values.{integer_of, is_nullterm, container}
use Rattle.light_checks.specs.Weights.{IsAddress, IsSingle, IsWhole, IsSource, IsDerived, IsHanded}
use Rattle.light_checks.specs.Within.{is_integer, shape_at, IsShape, IsContext}
use Rattle.light_checks.specs.Words.{IsReadable}
use Rattle.light_checks.proofs.Ensuring.{Ensures, Any, then_ensures, pure_ensures, none_ensures, lift_ensures, ask_ensures, weaker}
use Rattle.light_checks.proofs.Weighing.{address_light, single_address, small_light}
use Rattle.light_checks.proofs.Annotating.{slot_names, member_names}
use Rattle.light_checks.proofs.Reading.{between_size, shape_is, member_shape_is, integer_is}
use Rattle.light_checks.proofs.CoercionRules.{converted_side_small, handed_is, coerce_to_is, coerce_counted_is, slot_changes_are, member_changes_are, tag_change_is}
use Rattle.light_checks.proofs.ExpressionRules.{derive_is}
use Rattle.light_checks.proofs.PlaceRules.{derived_more}

-- no integer is declared where something else is
not_integer : {P : Type 0} (o : Option Shape) (s : Shape) → o ≡ Some s → is_integer (Some s) ≡ false → is_integer o ≡ true → P
not_integer o s e f t = absurd (false≢true (sym f ∙ (ap is_integer (sym e) ∙ t)))

module _ (ctx : Context) (is : IsContext ctx) (n : ℕ) (few : n + 3 ≤ 2 ^ 30) where
  integer_lift : (x : Derived) → IsDerived n x → Ensures (lift (integer_of ctx x)) IsWhole
  integer_lift x k = lift_ensures (integer_of ctx x) IsWhole (λ w found. integer_is ctx is n x w k found)

  handed_lift : (key : Element) (nullterm : Bool) (x : Derived) → IsDerived n x → Ensures (lift (handed ctx key nullterm x)) (IsHanded n)
  handed_lift key nullterm x k = lift_ensures (handed ctx key nullterm x) (IsHanded n) (λ h found. handed_is ctx is n (omega arith) key nullterm x h k found)

  key_lift : (elem : ℕ) → Ensures (lift (element_at ctx.table elem)) IsKey
  key_lift elem = lift_ensures (element_at ctx.table elem) IsKey (λ key found. is.table.elements elem key found)

  -- ---- to a local
  integer_local : (slot : ℕ) (s : Scalar) (w : Whole) → IsWhole w → Ensures (assign_integer ctx slot s w) Any
  unfolding assign_integer
  integer_local slot s w k =
      let side = sum_of (converted_side s w) in
      let one : IsSingle side = converted_side_small s w k in
      then_ensures _ _ Any Any (slot_changes_are ctx is n (omega arith) slot side (single_address side n one) (λ e. one)) (λ ids any. pure_ensures _ Any tt)

  automatic_local : (slot elem : ℕ) (b : Bounds) (h : Handed) → slot_shape ctx slot ≡ Some (shape.Pointer elem b) → IsHanded n h → Ensures (assign_automatic ctx slot h) Any
  unfolding assign_automatic
  automatic_local slot elem b h here k =
      then_ensures _ _ Any Any (lift_ensures (hidden_slot ctx.locals slot) Any (λ hidden found. tt))
      (λ hidden any. then_ensures _ _ Any Any (slot_changes_are ctx is n (omega arith) slot h.at k.at (λ e. not_integer (slot_shape ctx slot) (shape.Pointer elem b) here refl e)) (λ ids any. pure_ensures _ Any tt))

  annotated_local : (slot elem : ℕ) (key : Element) (b : Bounds) (h : Handed) → slot_shape ctx slot ≡ Some (shape.Pointer elem b) → IsHanded n h → Ensures (assign_annotated ctx slot key b h) Any
  unfolding assign_annotated
  annotated_local slot elem key b h here k =
      then_ensures _ _ Any Any (coerce_to_is ctx is n (omega arith) ctx.slots _ key b h (slot_names ctx n ctx.slots) (shape_is ctx.slots slot (shape.Pointer elem b) is.slots here) k)
      (λ ids any. then_ensures _ _ Any Any (slot_changes_are ctx is n (omega arith) slot h.at k.at (λ e. not_integer (slot_shape ctx slot) (shape.Pointer elem b) here refl e)) (λ more any. pure_ensures _ Any tt))

  pointer_local : (slot elem : ℕ) (key : Element) (b : Bounds) (x : Derived) → slot_shape ctx slot ≡ Some (shape.Pointer elem b) → IsDerived n x → Ensures (assign_pointer ctx slot key b x) Any
  unfolding assign_pointer
  pointer_local slot elem key bounds.Hidden x here k = then_ensures _ _ (IsHanded n) Any (handed_lift key false x k) (λ h l. automatic_local slot elem bounds.Hidden h here l)
  pointer_local slot elem key bounds.Nullterm x here k = then_ensures _ _ (IsHanded n) Any (handed_lift key true x k) (λ h l. annotated_local slot elem key bounds.Nullterm h here l)
  pointer_local slot elem key (bounds.Within lo hi) x here k = then_ensures _ _ (IsHanded n) Any (handed_lift key false x k) (λ h l. annotated_local slot elem key (bounds.Within lo hi) h here l)

  to_local : (slot : ℕ) (x : Derived) (s : Shape) → slot_shape ctx slot ≡ Some s → IsDerived n x → Ensures (assign_local ctx slot x s) Any
  unfolding assign_local
  to_local slot x (shape.Int s) here k = then_ensures _ _ IsWhole Any (integer_lift x k) (λ w l. integer_local slot s w l)
  to_local slot x (shape.Pointer elem b) here k = then_ensures _ _ IsKey Any (key_lift elem) (λ key l. pointer_local slot elem key b x here k)
  to_local slot x (shape.Struct j) here k = none_ensures Any
  to_local slot x shape.Address here k = none_ensures Any

  -- ---- to a place
  counted_store : (p : Place) (x : Derived) (elem : ℕ) (count : ℤ) → unsigned_abs count ≤ 2 ^ 42 → IsDerived n x → Ensures (store_counted ctx p x elem count) Any
  unfolding store_counted
  counted_store p x elem count small k =
      then_ensures _ _ IsKey Any (key_lift elem)
      (λ key l. then_ensures _ _ (IsHanded n) Any (handed_lift key false x k)
      (λ h m. then_ensures _ _ Any Any (coerce_counted_is ctx is n (omega arith) key count h small m) (λ ids any. pure_ensures _ Any tt)))

  text_store : (p : Place) (x : Derived) (elem : ℕ) → IsDerived n x → Ensures (store_text ctx p x elem) Any
  unfolding store_text
  text_store p x elem k =
      then_ensures _ _ IsKey Any (key_lift elem) (λ key l. then_ensures _ _ (IsHanded n) Any (handed_lift key true x k) (λ h m. pure_ensures _ Any tt))

  integer_store : (p : Place) (x : Derived) (s : Scalar) → IsDerived n x → Ensures (store_integer ctx p x s) Any
  unfolding store_integer
  integer_store p x s k = then_ensures _ _ IsWhole Any (integer_lift x k) (λ w l. pure_ensures _ Any tt)

  element_store : (p : Place) (x : Derived) (key : Element) → IsKey key → IsDerived n x → Ensures (store_element ctx p x key) Any
  unfolding store_element
  element_store p x (element.Int s) key k = integer_store p x s k
  element_store p x (element.Struct j) key k = none_ensures Any
  element_store p x (element.Sentinel m) key k = counted_store p x m (pos 0) (omega arith) k
  element_store p x (element.Nullterm m) key k = text_store p x m k
  element_store p x (element.Count m count) key k = counted_store p x m count (between_size (2 ^ 42) count key) k

  byte_store : (p : Place) (w : Whole) → IsAddress n p.at → IsWhole w → Ensures (store_byte ctx p w) Any
  unfolding store_byte
  byte_store p w a k =
      then_ensures _ _ Any Any
      (ask_ensures ctx kind.Term (Term p.at (Some (converted_side U8 w))) (address_light n p.at (omega arith) a, small_light (converted_side U8 w) (converted_side_small U8 w k)))
      (λ id any. pure_ensures _ Any tt)

  number_store : (p : Place) (s m offset : ℕ) (scalar : Scalar) (w : Whole) → IsAddress n p.at → offset ≤ 65536 → IsWhole w → Ensures (store_number ctx p s m offset scalar w) Any
  unfolding store_number
  number_store p s m offset scalar w a h k =
      let side = converted_side scalar w in
      let small = converted_side_small scalar w k in
      then_ensures _ _ Any Any (member_changes_are ctx is n (omega arith) p s m (sum_of side) (single_address (sum_of side) n small) (λ e. small))
      (λ ids any. then_ensures _ _ Any Any (tag_change_is ctx is n (omega arith) p s m offset scalar side a h small) (λ more any. pure_ensures _ Any tt))

  pointer_store : (p : Place) (s m elem : ℕ) (key : Element) (b : Bounds) (h : Handed) → shape_at (map shape_of (members_of ctx.table s)) m ≡ Some (shape.Pointer elem b)
      → IsShape (map shape_of (members_of ctx.table s)) (Some (shape.Pointer elem b)) → IsHanded n h → Ensures (store_pointer ctx p s m key b h) Any
  unfolding store_pointer
  pointer_store p s m elem key b h here bound k =
      let shapes = map shape_of (members_of ctx.table s) in
      then_ensures _ _ Any Any (coerce_to_is ctx is n (omega arith) shapes (present (struct_names p s)) key b h (member_names ctx n shapes (container p.form) s) bound k)
      (λ ids any. then_ensures _ _ Any Any (member_changes_are ctx is n (omega arith) p s m h.at k.at (λ e. not_integer (shape_at shapes m) (shape.Pointer elem b) here refl e)) (λ more any. pure_ensures _ Any tt))

  member_store : (p : Place) (x : Derived) (s m offset : ℕ) (y : Shape) → shape_at (map shape_of (members_of ctx.table s)) m ≡ Some y
      → IsShape (map shape_of (members_of ctx.table s)) (Some y) → IsAddress n p.at → offset ≤ 65536 → IsDerived n x → Ensures (store_member ctx p x s m offset y) Any
  unfolding store_member
  member_store p x s m offset (shape.Int scalar) here bound a h k = then_ensures _ _ IsWhole Any (integer_lift x k) (λ w l. number_store p s m offset scalar w a h l)
  member_store p x s m offset (shape.Pointer elem b) here bound a h k =
      then_ensures _ _ IsKey Any (key_lift elem)
      (λ key l. then_ensures _ _ (IsHanded n) Any (handed_lift key (is_nullterm b) x k) (λ hand o. pointer_store p s m elem key b hand here bound o))
  member_store p x s m offset (shape.Struct j) here bound a h k = none_ensures Any
  member_store p x s m offset shape.Address here bound a h k = none_ensures Any

  here_is : (s m : ℕ) (y : Member) → member ctx.table s m ≡ Some y → shape_at (map shape_of (members_of ctx.table s)) m ≡ Some y.shape
  here_is s m y found = ap option_flatten (slice_get-map shape_of (members_of ctx.table s) m ∙ ap (option_map shape_of) found)

  store_by_is : (p : Place) (x : Derived) (y : Source) → IsAddress n p.at → IsSource y → IsDerived n x → Ensures (store_by ctx p x y) Any
  store_by_is p x (source.Element key) a l k = element_store p x key l k
  store_by_is p x source.Text a l k = then_ensures _ _ IsWhole Any (integer_lift x k) (λ w m. byte_store p w a m)
  store_by_is p x (source.Member s m) a l k =
      then_ensures _ _ (λ (y : Member). member ctx.table s m ≡ Some y) Any (lift_ensures (member ctx.table s m) _ (λ y found. found))
      (λ y found. member_store p x s m y.offset y.shape (here_is s m y found) (member_shape_is ctx is s m y found) a (is.table.members s m y found).0 k)

  assign_to_is : (x y : Derived) → IsDerived n x → IsDerived n y → Ensures (assign_to ctx x y) Any
  unfolding assign_to store
  assign_to_is x (derived.Local slot) k l =
      then_ensures _ _ (λ (s : Shape). slot_shape ctx slot ≡ Some s) Any (lift_ensures (slot_shape ctx slot) _ (λ s found. found)) (λ s found. to_local slot x s found k)
  assign_to_is x (derived.Place p) k l = store_by_is p x p.source l.at l.source k
  assign_to_is x (derived.Value v) k l = none_ensures Any
  assign_to_is x (derived.Array a) k l = none_ensures Any
  assign_to_is x (derived.Union u) k l = none_ensures Any

-- an expression of at most 1,000 words
pub derive_short : (ctx : Context) → IsContext ctx → (e : Expr) → IsReadable (spelled e) → Ensures (derive ctx e) (IsDerived 1000)
derive_short ctx is e r =
    let few = r.words in
    weaker _ (IsDerived (length (spelled e))) (IsDerived 1000) (λ d k. derived_more ctx is (length (spelled e)) (omega arith) 1000 d few k) (derive_is ctx is e r)

pub assign_is : (ctx : Context) → IsContext ctx → (l e : Expr) → IsReadable (spelled l) → IsReadable (spelled e) → Ensures (assign ctx l e) Any
unfolding assign
assign_is ctx is l e r s =
    then_ensures _ _ (IsDerived 1000) Any (derive_short ctx is e s)
    (λ x k. then_ensures _ _ (IsDerived 1000) Any (derive_short ctx is l r) (λ y m. assign_to_is ctx is 1000 (omega arith) x y k m))
