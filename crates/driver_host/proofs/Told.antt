-- Items are told one behind another, and a report that is silent tells a front part of whatever comes.
-- Here: prints-nothing, prints-then, prints-put, prints-fault, prints-silent, prints-list
use Rattle.std.proofs.Common.{◌≡◌, ℕ, Bool, true, false, List, [], ◌∷◌, ◌++◌, map, ◌+◌, ◌<◌, ◌≤◌, length, drop, get_or, Option, sym, ap, subst, ◌∙◌, append-nil, append_assoc}
use Rattle.std.proofs.lemmas.Grind.{flat_map-append}
use Rattle.std.proofs.lemmas.List.{at_drop_more}
use Rattle.std.proofs.Math.ListN.{drop_of_length-le}
use Rattle.sd_outside.specs.Counts.{Rose}
use Rattle.sd_outside.specs.Sink.{more, IsCut}
use Rattle.sd_outside.proofs.More.{more-more}
use Rattle.run_report.specs.declared.item.Item.{Item}
use Rattle.run_report.specs.Lines.{line_of, print}
use Rattle.driver_host.specs.Printing.{Out, out, TellsWhen, IsTold, Prints}

-- the lines of more items come behind
print-more : (first : Option (List ℕ)) (said items : List Item) → more (more first (print said)) (print items) ≡ more first (print (said ++ items))
print-more first said items = more-more first (print said) (print items) ∙ ap (more first) (sym (flat_map-append line_of said items))

cut-behind : (now written : Option (List ℕ)) (rest : List ℕ) → IsCut written now → IsCut written (more now rest)
cut-behind now written rest cut = record {
  rest = cut.rest ++ rest;
  is = ap (λ t. more t rest) cut.is ∙ more-more written cut.rest rest;
}

-- a front part of what is told so far is one of what is told later
cut-more : (written first : Option (List ℕ)) (said items : List Item) → IsCut written (more first (print said)) →
    IsCut written (more first (print (said ++ items)))
cut-more written first said items cut =
    subst (IsCut written) (print-more first said items) (cut-behind (more first (print said)) written (print items) cut)

pub prints-nothing : (o : Out) → Prints o o []
prints-nothing o = record { to = λ first faults said told. subst (IsTold o first faults) (sym (append-nil said)) told }

pub prints-then : {a b c : Out} {xs ys : List Item} → Prints a b xs → Prints b c ys → Prints a c (xs ++ ys)
prints-then {c} {xs} {ys} p q = record {
  to = λ first faults said told.
      subst (IsTold c first faults) (append_assoc said xs ys) (q.to first faults (said ++ xs) (p.to first faults said told));
}

-- an item is put on the report, and no write fails
pub prints-put : (kept kept' : List ℕ) (written written' : Option (List ℕ)) (faults faults' : ℕ) (x : Item)
    → more written' kept' ≡ more (more written kept) (line_of x) → faults' ≡ faults
    → Prints (out false kept written faults) (out false kept' written' faults') (x ∷ [])
prints-put kept kept' written written' faults faults' x put calm = record {
  to = λ first before said told. record {
    tells = (
      put ∙ ap (λ t. more t (line_of x)) told.tells.0 ∙ ap (more (more first (print said))) (sym (append-nil (line_of x)))
          ∙ print-more first said (x ∷ []),
      calm ∙ told.tells.1,
    );
  };
}

-- a list of items is told at once
pub prints-list : (kept kept' : List ℕ) (written written' : Option (List ℕ)) (faults faults' : ℕ) (items : List Item)
    → more written' kept' ≡ more (more written kept) (print items) → faults' ≡ faults
    → Prints (out false kept written faults) (out false kept' written' faults') items
prints-list kept kept' written written' faults faults' items put calm = record {
  to = λ first before said told. record {
    tells =
        (put ∙ ap (λ t. more t (print items)) told.tells.0 ∙ print-more first said items, calm ∙ told.tells.1);
  };
}

-- a write fails: a front part of what was told, or of that and these items, is written
pub prints-fault : (kept kept' : List ℕ) (written written' : Option (List ℕ)) (faults faults' : ℕ) (items : List Item)
    → IsCut written' (more (more written kept) (print items)) → Rose faults faults'
    → Prints (out false kept written faults) (out true kept' written' faults') items
prints-fault kept kept' written written' faults faults' items cut rose = record {
  to = λ first before said told. record {
    tells = (
      subst (IsCut written') (ap (λ t. more t (print items)) told.tells.0 ∙ print-more first said items) cut,
      subst (λ n. Rose n faults') told.tells.1 rose,
    );
  };
}

pub prints-fault_before : (kept kept' : List ℕ) (written written' : Option (List ℕ)) (faults faults' : ℕ) (items : List Item)
    → IsCut written' (more written kept) → Rose faults faults'
    → Prints (out false kept written faults) (out true kept' written' faults') items
prints-fault_before kept kept' written written' faults faults' items cut rose =
    prints-fault kept kept' written written' faults faults' items (cut-behind (more written kept) written' (print items) cut) rose

-- nothing more is written
pub prints-silent : (o : Out) (items : List Item) → o.is_silent ≡ true → Prints o o items
prints-silent o items silent = record {
  to = λ first faults said told. record {
    tells =
        subst (λ b. TellsWhen b o first faults (said ++ items)) (sym silent)
        (silenced o first faults said items (subst (λ b. TellsWhen b o first faults said) silent told.tells));
  };
}
  where
    silenced : (o : Out) (first : Option (List ℕ)) (faults : ℕ) (said items : List Item) → TellsWhen true o first faults said →
        TellsWhen true o first faults (said ++ items)
    silenced o first faults said items told = (cut-more o.written first said items told.0, told.1)

-- ---- the same where the report is found not to be silent

pub put-one : (silent : Bool) (kept kept' : List ℕ) (written written' : Option (List ℕ)) (faults faults' : ℕ) (x : Item) → silent ≡ false
    → more written' kept' ≡ more (more written kept) (line_of x) → faults' ≡ faults
    → Prints (out silent kept written faults) (out silent kept' written' faults') (x ∷ [])
put-one silent kept kept' written written' faults faults' x loud put calm =
    subst (λ b. Prints (out b kept written faults) (out b kept' written' faults') (x ∷ [])) (sym loud)
    (prints-put kept kept' written written' faults faults' x put calm)

pub faulted-one : (silent : Bool) (kept kept' : List ℕ) (written written' : Option (List ℕ)) (faults faults' : ℕ) (x : Item) → silent ≡ false
    → IsCut written' (more written kept) → Rose faults faults'
    → Prints (out silent kept written faults) (out true kept' written' faults') (x ∷ [])
faulted-one silent kept kept' written written' faults faults' x loud cut rose =
    subst (λ b. Prints (out b kept written faults) (out true kept' written' faults') (x ∷ [])) (sym loud)
    (prints-fault_before kept kept' written written' faults faults' (x ∷ []) cut rose)

pub put-list : (silent : Bool) (kept kept' : List ℕ) (written written' : Option (List ℕ)) (faults faults' : ℕ) (items : List Item) → silent ≡ false
    → more written' kept' ≡ more (more written kept) (print items) → faults' ≡ faults
    → Prints (out silent kept written faults) (out silent kept' written' faults') items
put-list silent kept kept' written written' faults faults' items loud put calm =
    subst (λ b. Prints (out b kept written faults) (out b kept' written' faults') items) (sym loud)
    (prints-list kept kept' written written' faults faults' items put calm)

pub faulted-list : (silent : Bool) (kept kept' : List ℕ) (written written' : Option (List ℕ)) (faults faults' : ℕ) (items : List Item) → silent ≡ false
    → IsCut written' (more (more written kept) (print items)) → Rose faults faults'
    → Prints (out silent kept written faults) (out true kept' written' faults') items
faulted-list silent kept kept' written written' faults faults' items loud cut rose =
    subst (λ b. Prints (out b kept written faults) (out true kept' written' faults') items) (sym loud)
    (prints-fault kept kept' written written' faults faults' items cut rose)

-- ---- a list, item by item

-- one more of the items still to come is told
pub next-told : {X : Type 0} (f : X → Item) (xs : List X) (i : ℕ) (d : X) (first now later : Out) (y : Item) (all : List Item)
    → i < length xs → y ≡ f (get_or xs i d)
    → ((o : Out) → Prints now o (map f (drop i xs)) → Prints first o all) → Prints now later (y ∷ [])
    → (o : Out) → Prints later o (map f (drop (i + 1) xs)) → Prints first o all
next-told f xs i d first now later y all inside is going one o rest =
    let here : Prints now later (f (get_or xs i d) ∷ []) = subst (λ z. Prints now later (z ∷ [])) is one in
    going o (subst (Prints now o) (sym (at_drop_more (map f) xs i d inside)) (prints-then {xs = f (get_or xs i d) ∷ []} {ys = map f (drop (i + 1) xs)} here rest))

-- all are told
pub all-told : {X : Type 0} (f : X → Item) (xs : List X) (i : ℕ) (first now : Out) (all : List Item) → length xs ≤ i
    → ((o : Out) → Prints now o (map f (drop i xs)) → Prints first o all) → Prints first now all
all-told f xs i first now all past going =
    going now (subst (λ ys. Prints now now (map f ys)) (sym (drop_of_length-le xs past)) (prints-nothing now))
