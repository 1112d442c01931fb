-- Two members of structs within one place are the same, lie apart, or are arms of one union.
use Rattle.std.proofs.Common.{◌≡◌, ℕ, ◌+◌, ◌*◌, ◌≤◌, ◌<◌, nat_lt, ◌==◌, Bool, true, false, List}
use Rattle.std.proofs.Common.{Option, Some, option_map, unwrap_or, slice_get, All, refl, sym, ap, ◌∙◌, subst, true≢false, arith}
use Rattle.std.proofs.lemmas.Nat.{mul-le}
use Rattle.std.proofs.lemmas.Bool.Decides.{Decides-eqb, nat_tests}
use Rattle.std.proofs.lemmas.Option.{slice_get_within, get_or_from_slice_get}
use Rattle.checked_tree.specs.declared.shapes.Member.{Member}
use Rattle.checked_tree.specs.declared.shapes.Shape.{Shape}
use Rattle.checked_tree.specs.declared.shapes.Shape.TheVariants as shape
use Rattle.checked_tree.specs.declared.shapes.StructShape.{StructShape}
use Rattle.layout_laws.proofs.ZeroFits.{LiesIn}
use Rattle.driver_safety.specs.StructPlaces.{room_of, SameUnion, Beside, before, behind, arms, IsLeaf, AreTidy}
use Rattle.deputy_types.specs.Fitting.{shape_size, Part, whole, member, is_any, AreNested}

-- a part, seen from the whole: the first member comes first
pub data Below (structs : List StructShape) (a : ℕ) (y : Shape) : ℕ → Shape → Type 0 where
  here : {at : ℕ} {x : Shape} → a ≡ at → y ≡ x → Below structs a y at x
  inner : {at : ℕ} {x : Shape} → (s k j : ℕ) (t : StructShape) (m : Member) → x ≡ shape.Struct s → slice_get structs s ≡ Some t
      → slice_get t.members k ≡ Some m → j < m.count
      → Below structs a y (at + m.offset + j * shape_size structs m.shape) m.shape → Below structs a y at x

module _ (structs : List StructShape) where
  below_more : (b s k j : ℕ) (t : StructShape) (m : Member) (a : ℕ) (y : Shape) (at : ℕ) (x : Shape) → Below structs b (shape.Struct s) at
      x → slice_get structs s ≡ Some t → slice_get t.members k ≡ Some m
      → j < m.count → a ≡ b + m.offset + j * shape_size structs m.shape → y ≡ m.shape → Below structs a y at x
  below_more b s k j t m a y at x (here e f) is mem l g h = inner s k j t m (sym f) is mem l
      (here (g ∙ ap (λ (n : ℕ). n + m.offset + j * shape_size structs m.shape) e) h)
  below_more b s k j t m a y at x (inner s' k' j' t' m' e' is' mem' l' p) is mem l g h =
      inner s' k' j' t' m' e' is' mem' l' (below_more b s k j t m a y (at + m'.offset + j' * shape_size structs m'.shape) m'.shape p is mem
      l g h)

  pub below : (at : ℕ) (x : Shape) (a : ℕ) (y : Shape) → Part structs is_any at x a y → Below structs a y at x
  below at x a y (whole e f) = here e f
  below at x a y (member b s k j t m p is mem passes l e f) = below_more b s k j t m a y at x (below at x b (shape.Struct s) p) is mem l e f

  at_member : (t : StructShape) (k j : ℕ) (m : Member) → All (λ (x : Member). x.offset + x.count * shape_size structs x.shape ≤ t.size)
      t.members → slice_get t.members k ≡ Some m → j < m.count
      → m.offset + j * shape_size structs m.shape + shape_size structs m.shape ≤ t.size
  at_member t k j m all is l =
      let within : m.offset + m.count * shape_size structs m.shape ≤ t.size =
      subst (λ (x : Member). x.offset + x.count * shape_size structs x.shape ≤ t.size) (get_or_from_slice_get t.members k m m is)
      (all k m (slice_get_within t.members k m is)) in
      let more : (j + 1) * shape_size structs m.shape ≤ m.count * shape_size structs m.shape = mul-le (j + 1) (shape_size structs m.shape)
      m.count (shape_size structs m.shape) (omega (arith, l)) (omega arith) in
      grind arith

  struct_size : (x : Shape) (s : ℕ) (t : StructShape) → x ≡ shape.Struct s → slice_get structs s ≡ Some t → shape_size structs x ≡ t.size
  struct_size x s t e is = ap (shape_size structs) e ∙ ap (λ (o : Option StructShape). unwrap_or (option_map (λ (t : StructShape). t.size)
      o) 0) is

  pub below_in : (a : ℕ) (y : Shape) → AreNested structs → (at : ℕ) (x : Shape) → Below structs a y at x → LiesIn at (shape_size structs x)
      a (shape_size structs y)
  below_in a y nested at x (here e f) = subst (λ (z : Shape). LiesIn at (shape_size structs x) a (shape_size structs z)) (sym f)
      (record { from = omega (arith, e); to = omega (arith, e) })
  below_in a y nested at x (inner s k j t m e is mem l p) =
      let rest = below_in a y nested (at + m.offset + j * shape_size structs m.shape) m.shape p in
      let size = struct_size x s t e is in
      let one = at_member t k j m (nested s t is) mem l in
      record { from = omega (arith, rest.from); to = omega (arith, rest.to, size, one) }

-- an element of a member of a struct place
pub record IsElement (structs : List StructShape) (s k j : ℕ) : Type 0 where
  pub structure : StructShape
  pub structure_is : slice_get structs s ≡ Some structure
  pub member : Member
  pub member_is : slice_get structure.members k ≡ Some member
  pub there : j < member.count

-- its address, from that of its struct place
abbrev pub address_of : {structs : List StructShape} {s k j : ℕ} → ℕ → IsElement structs s k j → ℕ
address_of {structs} {s} {k} {j} b e = b + e.member.offset + j * shape_size structs e.member.shape

abbrev pub bytes_of : {structs : List StructShape} {s k j : ℕ} → IsElement structs s k j → ℕ
bytes_of {structs} e = shape_size structs e.member.shape

pub data Related (structs : List StructShape) (b s k j : ℕ) (e : IsElement structs s k j) (b' s' k' j' : ℕ) (e' : IsElement structs s' k'
    j') : Type 0 where
  same : b ≡ b' → s ≡ s' → k ≡ k' → j ≡ j' → Related structs b s k j e b' s' k' j' e'
  first : address_of b e + bytes_of e ≤ address_of b' e' → Related structs b s k j e b' s' k' j' e'
  second : address_of b' e' + bytes_of e' ≤ address_of b e → Related structs b s k j e b' s' k' j' e'
  union : b ≡ b' → s ≡ s' → SameUnion e.member e'.member → Related structs b s k j e b' s' k' j' e'

module _ (structs : List StructShape) (tidy : AreTidy structs) where
  some_same : {A : Type 0} (a b : A) → ◌≡◌ {A = Option A} (Some a) (Some b) → a ≡ b
  some_same a b h = cc

  -- ---- two elements of the members of one struct place
  earlier : (b s k j j' : ℕ) (e : IsElement structs s k j) (e' : IsElement structs s k j') → j < j' → address_of b e + bytes_of e ≤
      address_of b e'
  earlier b s k j j' e e' l =
      let t : e.structure ≡ e'.structure = some_same e.structure e'.structure (sym e.structure_is ∙ e'.structure_is) in
      let m : e.member ≡ e'.member = some_same e.member e'.member (sym e.member_is ∙ ap (λ (t : StructShape). slice_get t.members k) t
      ∙ e'.member_is) in
      let offset : e.member.offset ≡ e'.member.offset = ap (λ (m : Member). m.offset) m in
      let size : bytes_of e ≡ bytes_of e' = ap (λ (m : Member). shape_size structs m.shape) m in
      let more : (j + 1) * bytes_of e ≤ j' * bytes_of e' = mul-le (j + 1) (bytes_of e) j' (bytes_of e') (omega (arith, l))
      (omega (arith, size)) in
      let next : (j + 1) * bytes_of e ≡ j * bytes_of e + bytes_of e = grind arith in
      omega (arith, offset, size, more, next)

  in_room : (b s k j : ℕ) (e : IsElement structs s k j) → address_of b e + bytes_of e ≤ b + e.member.offset + room_of structs e.member
  in_room b s k j e =
      let more : (j + 1) * bytes_of e ≤ e.member.count * bytes_of e = mul-le (j + 1) (bytes_of e) e.member.count (bytes_of e)
      (omega (arith, e.there)) (omega arith) in
      let next : (j + 1) * bytes_of e ≡ j * bytes_of e + bytes_of e = grind arith in
      omega (arith, more, next)

  of_members : (b s k j k' j' : ℕ) (e : IsElement structs s k j) (e' : IsElement structs s k' j') → Beside structs e.member e'.member
      → Related structs b s k j e b s k' j' e'
  of_members b s k j k' j' e e' (before l) = let room = in_room b s k j e in first (omega (arith, room, l))
  of_members b s k j k' j' e e' (behind l) = let room = in_room b s k' j' e' in second (omega (arith, room, l))
  of_members b s k j k' j' e e' (arms u) = union refl refl u

  one_member : (b s k j j' : ℕ) (e : IsElement structs s k j) (e' : IsElement structs s k j') → Related structs b s k j e b s k j' e'
  one_member b s k j j' e e' = by (j == j') (nat_lt j j') refl refl
    where
      by : (x y : Bool) → (j == j') ≡ x → nat_lt j j' ≡ y → Related structs b s k j e b s k j' e'
      by true y h g = same refl refl refl ((Decides-eqb j j').0 h)
      by false true h g = first (earlier b s k j j' e e' (grind arith))
      by false false h g = second (earlier b s k j' j e' e (grind (arith, nat_tests)))

  pub of_siblings : (b s k j k' j' : ℕ) (e : IsElement structs s k j) (e' : IsElement structs s k' j') → Related structs b s k j e b s k'
      j' e'
  of_siblings b s k j k' j' e e' = by (k == k') refl
    where
      same_member : (k' : ℕ) (e' : IsElement structs s k' j') → k ≡ k' → Related structs b s k j e b s k' j' e'
      same_member k' e' h = path k' h e'
        where
          path : (k' : ℕ) → k ≡ k' → (e' : IsElement structs s k' j') → Related structs b s k j e b s k' j' e'
          path k' h = subst (λ (n : ℕ). (e' : IsElement structs s n j') → Related structs b s k j e b s n j' e') h
              (λ e'. one_member b s k j j' e e')

      by : (x : Bool) → (k == k') ≡ x → Related structs b s k j e b s k' j' e'
      by true h = same_member k' e' ((Decides-eqb k k').0 h)
      by false h =
          let t : e.structure ≡ e'.structure = some_same e.structure e'.structure (sym e.structure_is ∙ e'.structure_is) in
          of_members b s k j k' j' e e' (tidy.beside s e.structure k k' e.member e'.member e.structure_is e.member_is
          (ap (λ (t : StructShape). slice_get t.members k') t ∙ e'.member_is) (λ g. true≢false (sym ((Decides-eqb k k').1 g) ∙ h)))

  flip : (b s k j : ℕ) (e : IsElement structs s k j) (b' s' k' j' : ℕ) (e' : IsElement structs s' k' j') → Related structs b s k j e b' s'
      k' j' e' → Related structs b' s' k' j' e' b s k j e
  flip b s k j e b' s' k' j' e' (same p q r t) = same (sym p) (sym q) (sym r) (sym t)
  flip b s k j e b' s' k' j' e' (first l) = second l
  flip b s k j e b' s' k' j' e' (second l) = first l
  flip b s k j e b' s' k' j' e' (union p q u) = union (sym p) (sym q) (u.0, u.2, u.1, u.4, u.3)

  -- what holds a struct place is a struct
  pub holder : (b s at : ℕ) (x : Shape) → Below structs b (shape.Struct s) at x → IsLeaf x → ⊥
  holder b s at x (here e f) l = subst IsLeaf (sym f) l
  holder b s at x (inner s' k j t m e is mem n p) l = subst IsLeaf e l

  struct_same : (s s' : ℕ) → shape.Struct s ≡ shape.Struct s' → s ≡ s'
  struct_same s s' h = cc

  -- an element of a member lies within its struct
  in_struct : (b s k j : ℕ) (e : IsElement structs s k j) → LiesIn b (shape_size structs (shape.Struct s)) (address_of b e) (bytes_of e)
  in_struct b s k j e =
      let size = struct_size structs (shape.Struct s) s e.structure refl e.structure_is in
      let one = at_member structs e.structure k j e.member (tidy.nested s e.structure e.structure_is) e.member_is e.there in
      record { from = omega arith; to = omega (arith, size, one) }

  pub within : (b s k j : ℕ) (e : IsElement structs s k j) (at : ℕ) (x : Shape) → Below structs b (shape.Struct s) at x
      → LiesIn at (shape_size structs x) (address_of b e) (bytes_of e)
  within b s k j e at x p =
      let outer = below_in structs b (shape.Struct s) tidy.nested at x p in
      let inner' = in_struct b s k j e in
      record { from = omega (arith, outer.from, inner'.from); to = omega (arith, outer.to, inner'.to) }

  of_places : (b s k j : ℕ) (e : IsElement structs s k j) (b' : ℕ) → b ≡ b' → (s' : ℕ) → s ≡ s'
      → (k' j' : ℕ) (e' : IsElement structs s' k' j') → Related structs b s k j e b' s' k' j' e'
  of_places b s k j e b' p s' q k' j' e' =
      subst (λ (c : ℕ). Related structs b s k j e c s' k' j' e') p (subst (λ (n : ℕ). (e' : IsElement structs n k' j')
      → Related structs b s k j e b n k' j' e') q (λ e'. of_siblings b s k j k' j' e e') e')

  -- a member of the whole place, and one of a struct within another member of it
  beside_inner : (b s k j : ℕ) (e : IsElement structs s k j) → IsLeaf e.member.shape → (s1 k1 j1 : ℕ) (e1 : IsElement structs s1 k1 j1)
      (b' s' k' j' : ℕ) (e' : IsElement structs s' k' j')
      → Below structs b' (shape.Struct s') (address_of b e1) e1.member.shape → Related structs b s k j e b s1 k1 j1 e1
      → Related structs b s k j e b' s' k' j' e'
  beside_inner b s k j e leaf s1 k1 j1 e1 b' s' k' j' e' p (same x q r t) =
      let u : e.structure ≡ e1.structure = some_same e.structure e1.structure (sym e.structure_is ∙ ap (slice_get structs) q
      ∙ e1.structure_is) in
      let m : e.member ≡ e1.member = some_same e.member e1.member (sym e.member_is ∙ ap (λ (n : ℕ). slice_get e.structure.members n) r
      ∙ ap (λ (t : StructShape). slice_get t.members k1) u ∙ e1.member_is) in
      absurd (holder b' s' (address_of b e1) e1.member.shape p (subst (λ (m : Member). IsLeaf m.shape) m leaf))
  beside_inner b s k j e leaf s1 k1 j1 e1 b' s' k' j' e' p (first l) = let i = within b' s' k' j' e' (address_of b e1) e1.member.shape p in
      first (omega (arith, l, i.from))
  beside_inner b s k j e leaf s1 k1 j1 e1 b' s' k' j' e' p (second l) = let i = within b' s' k' j' e' (address_of b e1) e1.member.shape p
      in second (omega (arith, l, i.to))
  beside_inner b s k j e leaf s1 k1 j1 e1 b' s' k' j' e' p (union x q u) =
      absurd (holder b' s' (address_of b e1) e1.member.shape p (tidy.plain s1 e1.structure k1 e1.member u.0 u.2 e1.structure_is
      e1.member_is u.4))

  abbrev element : (s k j : ℕ) (t : StructShape) (m : Member) → slice_get structs s ≡ Some t → slice_get t.members k ≡ Some m → j < m.count
      → IsElement structs s k j
  element s k j t m is mem l = record { structure = t; structure_is = is; member = m; member_is = mem; there = l }

  pub related : (b s k j : ℕ) (e : IsElement structs s k j) (b' s' k' j' : ℕ) (e' : IsElement structs s' k' j') → IsLeaf e.member.shape
      → IsLeaf e'.member.shape
      → (at : ℕ) (x : Shape) → Below structs b (shape.Struct s) at x → Below structs b' (shape.Struct s') at x → Related structs b s k j e
      b' s' k' j' e'
  related b s k j e b' s' k' j' e' leaf leaf' at x (here p q) (here p' q') = of_places b s k j e b' (p ∙ sym p') s'
      (struct_same s s' (q ∙ sym q')) k' j' e'
  related b s k j e b' s' k' j' e' leaf leaf' at x (here p q) (inner s1 k1 j1 t1 m1 f is mem l rest) =
      let e1 = element s1 k1 j1 t1 m1 is mem l in
      beside_inner b s k j e leaf s1 k1 j1 e1 b' s' k' j' e' (subst (λ (c : ℕ). Below structs b' (shape.Struct s')
      (c + m1.offset + j1 * shape_size structs m1.shape) m1.shape) (sym p) rest)
      (of_places b s k j e b refl s1 (struct_same s s1 (q ∙ f)) k1 j1 e1)
  related b s k j e b' s' k' j' e' leaf leaf' at x (inner s1 k1 j1 t1 m1 f is mem l rest) (here p q) =
      let e1 = element s1 k1 j1 t1 m1 is mem l in
      flip b' s' k' j' e' b s k j e
      (beside_inner b' s' k' j' e' leaf' s1 k1 j1 e1 b s k j e (subst (λ (c : ℕ). Below structs b (shape.Struct s)
      (c + m1.offset + j1 * shape_size structs m1.shape) m1.shape) (sym p) rest)
      (of_places b' s' k' j' e' b' refl s1 (struct_same s' s1 (q ∙ f)) k1 j1 e1))
  related b s k j e b' s' k' j' e' leaf leaf' at x (inner s1 k1 j1 t1 m1 f is mem l rest) (inner s2 k2 j2 t2 m2 f' is' mem' l' rest') =
      by (λ p. related b s k j e b' s' k' j' e' leaf leaf' (at + m1.offset + j1 * shape_size structs m1.shape) m1.shape rest p)
      (of_places at s1 k1 j1 (element s1 k1 j1 t1 m1 is mem l) at refl s2 (struct_same s1 s2 (sym f ∙ f')) k2 j2
      (element s2 k2 j2 t2 m2 is' mem' l'))
    where
      one : IsElement structs s1 k1 j1
      one = element s1 k1 j1 t1 m1 is mem l

      other : IsElement structs s2 k2 j2
      other = element s2 k2 j2 t2 m2 is' mem' l'

      by : (Below structs b' (shape.Struct s') (at + m1.offset + j1 * shape_size structs m1.shape) m1.shape → Related structs b s k j e b'
          s' k' j' e')
          → Related structs at s1 k1 j1 one at s2 k2 j2 other → Related structs b s k j e b' s' k' j' e'
      by again (same u q r t) =
          let ts : t1 ≡ t2 = some_same t1 t2 (sym is ∙ ap (slice_get structs) q ∙ is') in
          let ms : m1 ≡ m2 = some_same m1 m2 (sym mem ∙ ap (λ (n : ℕ). slice_get t1.members n) r
          ∙ ap (λ (t : StructShape). slice_get t.members k2) ts ∙ mem') in
          let moved : Below structs b' (shape.Struct s') (at + m1.offset + j1 * shape_size structs m1.shape) m1.shape = subst
          (λ (m : Member). Below structs b' (shape.Struct s') (at + m.offset + j1 * shape_size structs m.shape) m.shape) (sym ms)
          (subst (λ (n : ℕ). Below structs b' (shape.Struct s') (at + m2.offset + n * shape_size structs m2.shape) m2.shape) (sym t) rest')
          in
          again moved
      by again (first n) =
          let i = within b s k j e (at + m1.offset + j1 * shape_size structs m1.shape) m1.shape rest in
          let i' = within b' s' k' j' e' (at + m2.offset + j2 * shape_size structs m2.shape) m2.shape rest' in
          first (omega (arith, n, i.to, i'.from))
      by again (second n) =
          let i = within b s k j e (at + m1.offset + j1 * shape_size structs m1.shape) m1.shape rest in
          let i' = within b' s' k' j' e' (at + m2.offset + j2 * shape_size structs m2.shape) m2.shape rest' in
          second (omega (arith, n, i'.to, i.from))
      by again (union u q w) = absurd (holder b s (at + m1.offset + j1 * shape_size structs m1.shape) m1.shape rest
          (tidy.plain s1 t1 k1 m1 w.0 w.1 is mem w.3))
