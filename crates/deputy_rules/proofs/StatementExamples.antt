-- An assignment to a field that a sibling's annotation names, and a call of a function whose parameter's annotation names another, with all their checks
-- written out.
use Rattle.std.proofs.Common.{◌≡◌, ℕ, List, [], ◌∷◌, codes, false, pos, Some, None, refl}
use Rattle.sd_base.specs.declared.kinds.CheckKind.TheVariants as kind
use Rattle.c_tree.specs.declared.expressions.Expr.{Expr}
use Rattle.c_tree.specs.declared.expressions.Expr.TheVariants as X
use Rattle.c_tree.specs.declared.words.Suffix.TheVariants as suffix
use Rattle.c_tree.specs.Slots.{slot_named, hidden_slot}
use Rattle.checked_tree.specs.declared.expressions.CheckedExpr.{CheckedExpr}
use Rattle.checked_tree.specs.declared.expressions.CheckedExpr.TheVariants as form
use Rattle.checked_tree.specs.declared.shapes.Bounds.{Bounds}
use Rattle.checked_tree.specs.declared.shapes.Bounds.TheVariants as bounds
use Rattle.checked_tree.specs.declared.shapes.Scalar.TheVariants.{U8, I32, Pointer}
use Rattle.checked_tree.specs.declared.shapes.Shape.TheVariants as shape
use Rattle.checked_tree.specs.declared.sums.Part.{Part}
use Rattle.checked_tree.specs.declared.sums.Part.TheVariants.{Constant}
use Rattle.checked_tree.specs.declared.sums.Sum.{Sum}
use Rattle.deputy_rules.specs.declared.asked.Asked.{Asked}
use Rattle.deputy_rules.specs.declared.asked.AskedCond.{AskedCond}
use Rattle.deputy_types.specs.declared.element.Element.TheVariants as element
use Rattle.deputy_rules.specs.declared.signature.Returned.TheVariants as returned
use Rattle.deputy_rules.specs.declared.signature.Signature.{Signature}
use Rattle.deputy_rules.specs.Calls.{call_function, call_target, free_slot, is_named_slot, shape_target, pass_one, pass}
use Rattle.deputy_rules.specs.Coercion.{handed_value}
use Rattle.deputy_rules.specs.Context.{Context}
use Rattle.deputy_rules.specs.Deriving.{bind}
use Rattle.deputy_rules.specs.Places.{named}
use Rattle.deputy_rules.specs.Sums.{atom_part}
use Rattle.deputy_types.specs.Table.{Table, element_at, shape_names}
use Rattle.deputy_rules.specs.Values.{hidden_pointer, local_value, container, value_of}
use Rattle.deputy_rules.proofs.StatementForms.{at_name}

-- `count` of the sibling with number k, of elements of 4 bytes
abbrev counted : ℕ → Bounds
counted k = bounds.Within (record { base = None; terms = []; bytes = pos 0 }) (record { base = None; terms = (pos 4, k) ∷ []; bytes = pos 0 })

-- the types of `struct s { int len; int *count(len) buf; }; struct s g;`
abbrev table : Table
table = record {
  types = record { structs = codes "s" ∷ []; elements = element.Int U8 ∷ element.Int I32 ∷ element.Struct 0 ∷ [] };
  extents = record { bytes = 8; align = 4 } ∷ [];
  elems = [];
  structs = record {
    size = 8;
    members = record { offset = 0; count = 1; shape = shape.Int I32; arm = None }
        ∷ record { offset = 4; count = 1; shape = shape.Pointer 1 (counted 0); arm = None } ∷ [];
    unions = [];
  } ∷ [];
  names = record {
    members = record { part = None; name = codes "len" } ∷ record { part = None; name = codes "buf" } ∷ [];
    unions = [];
    arrays = false ∷ false ∷ [];
    keys = Some (element.Int I32) ∷ None ∷ [];
  } ∷ [];
  image = record { base = 16; size = 8; elem = 2; count = 1; nullterm = false; bytes = [] } ∷ [];
  globals = codes "g" ∷ [];
  arrays = false ∷ [];
  literals = 0;
}

-- line 8 of a function with the one local `int *q;`, behind no checks
abbrev ctx : Context
ctx = record {
  table = table;
  locals = record { names = codes "q" ∷ []; hidden = Some 1 ∷ [] };
  slots = Some (shape.Pointer 1 bounds.Hidden) ∷ Some shape.Address ∷ Some shape.Address ∷ [];
  line = 8;
  first = 0;
}

abbrev plain : ℕ → Expr
plain n = X.Number (record { value = n; suffix = suffix.Plain })

-- `g.len` and `g.buf`, and their values
abbrev len : CheckedExpr
len = form.Field (form.Block 16) 0 []

-- the place in which `g.len` lies is that of g
abbrev length_now : CheckedExpr
length_now = form.Load I32 (form.Field (container len) 0 [])

abbrev buffer_now : CheckedExpr
buffer_now = form.Load (Pointer 0) (form.Field (container len) 4 [])

abbrev once : CheckedExpr → Part
once e = atom_part e

abbrev zero : Part
zero = Constant (pos 1) (pos 0)

abbrev sum : List Part → Sum
sum ps = record { parts = ps }

abbrev changes : AskedCond → Asked
changes c = record { line = 8; kind = kind.Change; cond = c }

-- `int f(int *count(n) p, int n)`
abbrev f : Signature
f = record { name = codes "f"; params = Some (shape.Pointer 1 (counted 1)) ∷ Some (shape.Int I32) ∷ []; result = Some (returned.Value (shape.Int I32)) }

-- line 2 of a function with the locals `int *q; int r;`, behind three checks
abbrev caller : Context
caller = record {
  table = table;
  locals = record { names = codes "q" ∷ codes "r" ∷ []; hidden = Some 2 ∷ None ∷ [] };
  slots = Some (shape.Pointer 1 bounds.Hidden) ∷ Some (shape.Int I32) ∷ Some shape.Address ∷ Some shape.Address ∷ [];
  line = 2;
  first = 3;
}

-- the value of q, and its bounds in the hidden slots
abbrev q : Part
q = once (form.Local 0)

abbrev low : Sum
low = sum (once (form.Local 2) ∷ [])

abbrev high : Sum
high = sum (once (form.Local 3) ∷ [])

abbrev bounds_of : AskedCond → Asked
bounds_of c = record { line = 2; kind = kind.Bound; cond = c }

-- an argument too few, and a target that an annotation names, are not derived
too_few : call_function caller 0 f (Some (codes "r")) (X.Name (codes "q") ∷ []) [] ≡ None
unfolding call_function call_target free_slot is_named_slot shape_target pass_one pass handed_value bind named slot_named hidden_slot element_at shape_names hidden_pointer local_value value_of
too_few = simp at_name

no_slot : call_function caller 0 f (Some (codes "q")) (X.Name (codes "q") ∷ plain 4 ∷ []) [] ≡ None
unfolding call_function call_target free_slot is_named_slot shape_target bind slot_named shape_names
no_slot = refl
