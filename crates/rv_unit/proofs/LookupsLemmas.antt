-- What look-ups by name and searches of the code find.

use Rattle.std.proofs.Common.{◌≡◌, ℕ, suc, ◌+◌, ◌<◌, ◌≤◌, Bool, true, false, cond, ◌&&◌, ◌||◌, ◌==◌, nat_lt, nat_le, List, [], ◌∷◌, ◌++◌, zero, ◌-◌, ◌^◌, min, max, length, map, get_or, refl, sym, ap, ◌∙◌, arith, Option, Some, None, option_map}
use Rattle.std.specs.Prelude.{reverse, not, is_some, slice_index_or, if◌then◌else◌}
use Rattle.std.specs.Borrow.{Bor}
use Rattle.std.specs.List.{find, list_all}
use Rattle.std.specs.Map.{lookup}
use Rattle.std.specs.Str.{bytes_eq}
use Rattle.indexmap.specs.IndexMap.{insert_entry}
use Rattle.std.proofs.lemmas.List.{reverse-append, map-append, length-map}
use Rattle.std.proofs.lemmas.Bool.{leb-true, leb-false, and_parts}
use Rattle.rv_expression_laws.specs.Values.{Meaning, Known, InSection, Open, Refused}
use Rattle.std.proofs.lemmas.List.Folds.{list_all-append}
use Rattle.rv_unit_laws.specs.Sections.{Section, place_of_name}
use Rattle.rv_unit_laws.specs.Tables as laws
use Rattle.rv_unit_laws.specs.Tables.{gives_location}
use Rattle.rv_unit_laws.proofs.BeforeLemmas.{IsBefore, label_before, set_now, none_later, defined_now, has_place_now}
use Rattle.rv_unit_laws.proofs.EnteringLemmas.{place_more, or_last}
use Rattle.std.proofs.Math.ListN.{set}
use Rattle.rv_list_laws.proofs.ElementsLemmas.{bytes_eq_swap, same_bytes}
use Rattle.rv_list_laws.proofs.FindLemmas.{find_all}
use Rattle.rv_unit.specs.declared.section.Extent.{Extent}
use Rattle.rv_unit.specs.declared.tables.Label.{Label}
use Rattle.rv_unit.specs.Sections.{section_of, extent_section, extent_of}
use Rattle.rv_unit.specs.Tables.{labelled_of, label_at}

-- a label by its name
pub label_found : (name : List ℕ) (es : List (Bor (List ℕ) × Label)) → option_map (label_at name) (lookup (λ (k : Bor (List ℕ)). bytes_eq name k.now) es) ≡ laws.label_of (map labelled_of es) true 0 name
label_found name [] = refl
label_found name (e ∷ es) = by (bytes_eq name e.0.now) (bytes_eq e.0.now name) refl refl (label_found name es)
  where
    by : (b c : Bool) → bytes_eq name e.0.now ≡ b → bytes_eq e.0.now name ≡ c → option_map (label_at name) (lookup (λ (k : Bor (List ℕ)). bytes_eq name k.now) es) ≡ laws.label_of (map labelled_of es) true 0 name
        → option_map (label_at name) (cond b (Some e.1) (lookup (λ (k : Bor (List ℕ)). bytes_eq name k.now) es)) ≡ cond (c && true) (Some (labelled_of e)) (laws.label_of (map labelled_of es) true 0 name)
    by true true p q rest = ap (λ n. Some (label_at n e.1)) (same_bytes name e.0.now p)
    by false false p q rest = rest
    by true false p q rest = absurd (let s = sym p ∙ bytes_eq_swap name e.0.now ∙ q in let t : true ≡ false = s in cc)
    by false true p q rest = absurd (let s = sym p ∙ bytes_eq_swap name e.0.now ∙ q in let t : false ≡ true = s in cc)

-- the names of the first section
pub indexed_first : (es : List (Bor (List ℕ) × ℕ)) (k : Bor (List ℕ)) (ss : List Section) (s : Section) → es ≡ (k, 0) ∷ [] → ss ≡ s ∷ [] → k.now ≡ s.name → (name : List ℕ)
    → lookup (λ (k : Bor (List ℕ)). bytes_eq name k.now) es ≡ place_of_name ss name
indexed_first es k ss s only first same name =
    ap (lookup (λ (k : Bor (List ℕ)). bytes_eq name k.now)) only
    ∙ ap (λ b. cond {A = Option ℕ} b (Some 0) None) (bytes_eq_swap name k.now ∙ ap (λ n. bytes_eq n name) same)
    ∙ by (bytes_eq s.name name) ∙ sym (ap (λ l. place_of_name l name) first)
  where
    by : (b : Bool) → cond {A = Option ℕ} b (Some 0) None ≡ (if b then Some 0 else None)
    by true = refl
    by false = refl

-- a name that is set, and one that is not
pub named_set : (t : laws.Tables) (o : ℕ) (name : List ℕ) (s : laws.Assignment) → IsBefore t o → laws.assigned_ever t.assignments name ≡ Some s → laws.own_named t false o name ≡ s.meaning
named_set t o name s h is =
    ap (λ f. laws.assigned_first f (laws.labelled (laws.opened_of t) (laws.label_of t.labels false o name) (laws.assigned_later false (laws.assigned_ever t.assignments name)))) (set_now t o name h ∙ is)

pub named_other : (t : laws.Tables) (o : ℕ) (name : List ℕ) → IsBefore t o → laws.assigned_ever t.assignments name ≡ None → laws.own_named t false o name ≡ laws.labelled (laws.opened_of t) (laws.label_of t.labels true 0 name) Open
named_other t o name h is =
    ap (λ f. laws.assigned_first f (laws.labelled (laws.opened_of t) (laws.label_of t.labels false o name) Open)) (set_now t o name h ∙ is)
    ∙ ap (λ l. laws.labelled (laws.opened_of t) l Open) (label_before t o name h)

-- the nearest numeric label before the next statement
pub numeric_label_latest : (t : laws.Tables) (o number : ℕ) → IsBefore t o → laws.numeric_label_before t.numeric_labels o number ≡ find (λ m. m.number == number) t.numeric_labels
numeric_label_latest t o number h = find_all (λ m. m.number == number) (λ m. nat_lt m.ordinal o) t.numeric_labels h.numeric_labels

-- nothing comes after the next statement
pub numeric_label_none : (t : laws.Tables) (o number : ℕ) → IsBefore t o → laws.numeric_label_after t.numeric_labels o number ≡ None
numeric_label_none t o number h = none_later o number (reverse t.numeric_labels) (all_reversed (λ m. nat_lt m.ordinal o) t.numeric_labels h.numeric_labels)
  where
    all_reversed : (p : laws.NumericLabel → Bool) (xs : List laws.NumericLabel) → list_all p xs ≡ true → list_all p (reverse xs) ≡ true
    all_reversed p [] h = refl
    all_reversed p (x ∷ xs) h =
        let both = and_parts (p x) (list_all p xs) h in
        ap (list_all p) (reverse-append (x ∷ []) xs) ∙ list_all-append p (reverse xs) (x ∷ []) ∙ ap (λ b. b && (p x && true)) (all_reversed p xs both.1) ∙ ap (λ b. b && true) both.0

-- the names of one section more
pub indexed_more : (old new : List (Bor (List ℕ) × ℕ)) (ss more : List Section) (s : Section) (n : ℕ) (key : Bor (List ℕ))
    → ((name : List ℕ) → lookup (λ (k : Bor (List ℕ)). bytes_eq name k.now) old ≡ place_of_name ss name) → place_of_name ss s.name ≡ None → n ≡ length ss → more ≡ ss ++ s ∷ [] → key.now ≡ s.name
    → ((q : Bor (List ℕ)) → lookup (λ (k : Bor (List ℕ)). bytes_eq q.now k.now) new ≡ cond (bytes_eq key.now q.now) (Some n) (lookup (λ (k : Bor (List ℕ)). bytes_eq q.now k.now) old))
    → (name : List ℕ) → lookup (λ (k : Bor (List ℕ)). bytes_eq name k.now) new ≡ place_of_name more name
indexed_more old new ss more s n key indexed free count is same updates name =
    updates (record { ref_ptr = (0, 0); now = name })
    ∙ ap (λ f. cond (bytes_eq key.now name) (Some n) f) (indexed name)
    ∙ ap (λ b. cond (bytes_eq b name) (Some n) (place_of_name ss name)) same
    ∙ ap (λ m. cond (bytes_eq s.name name) (Some m) (place_of_name ss name)) count
    ∙ by (bytes_eq s.name name) (place_of_name ss name) refl refl
    ∙ sym (place_more ss s name)
    ∙ sym (ap (λ l. place_of_name l name) is)
  where
    by : (b : Bool) (f : Option ℕ) → bytes_eq s.name name ≡ b → place_of_name ss name ≡ f → cond b (Some (length ss)) f ≡ or_last f (length ss) b
    by true None e p = refl
    by false None e p = refl
    by false (Some i) e p = refl
    by true (Some i) e p = absurd (let q : ◌≡◌ {A = Option ℕ} (Some i) None = sym p ∙ ap (place_of_name ss) (sym (same_bytes s.name name e)) ∙ free in cc)

-- a label that is defined, and one that is not
pub with_label_old : (t : laws.Tables) (o : ℕ) (name : List ℕ) → IsBefore t o → (is_some (laws.label_of t.labels true 0 name) || is_some (laws.assigned_ever t.assignments name)) ≡ true → t ≡ laws.with_label t o name
with_label_old t o name h is = sym (ap (λ b. if b then t else record t { labels = t.labels ++ record { name = name; ordinal = o; place = laws.here t } ∷ [] }) (defined_now t o name h ∙ is))

pub with_label_new : (t : laws.Tables) (o : ℕ) (name : List ℕ) (ls : List laws.Labelled) → IsBefore t o → (is_some (laws.label_of t.labels true 0 name) || is_some (laws.assigned_ever t.assignments name)) ≡ false
    → ls ≡ t.labels ++ record { name = name; ordinal = o; place = laws.here t } ∷ [] → record t { labels = ls } ≡ laws.with_label t o name
with_label_new t o name ls h is added =
    ap (λ l. record t { labels = l }) added
    ∙ sym (ap (λ b. if b then t else record t { labels = t.labels ++ record { name = name; ordinal = o; place = laws.here t } ∷ [] }) (defined_now t o name h ∙ is))

-- whether an assignment may be made
pub taken_place : (t : laws.Tables) (s : laws.Assignment) (m : Meaning) (b : Bool) → s.meaning ≡ m → IsBefore t s.ordinal → laws.is_location (record s { meaning = m }) ≡ true
    → b ≡ (is_some (laws.label_of t.labels true 0 s.name) || is_some (laws.assigned_ever t.assignments s.name)) → not b ≡ laws.may_set t s.ordinal s.name m
taken_place t s (InSection section offset) b e h is same = ap not (same ∙ sym (defined_now t s.ordinal s.name h))
taken_place t s (Known n) b e h is same = absurd (cc)
taken_place t s Open b e h is same = absurd (cc)
taken_place t s (Refused code) b e h is same = absurd (cc)

pub taken_other : (t : laws.Tables) (s : laws.Assignment) (m : Meaning) (b : Bool) → s.meaning ≡ m → IsBefore t s.ordinal → laws.is_location (record s { meaning = m }) ≡ false
    → b ≡ (is_some (laws.label_of t.labels true 0 s.name) || gives_location (laws.assigned_ever t.assignments s.name)) → not b ≡ laws.may_set t s.ordinal s.name m
taken_other t s (InSection section offset) b e h is same = absurd (cc)
taken_other t s (Known n) b e h is same = ap not (same ∙ sym (has_place_now t s.ordinal s.name h))
taken_other t s Open b e h is same = ap not (same ∙ sym (has_place_now t s.ordinal s.name h))
taken_other t s (Refused code) b e h is same = ap not (same ∙ sym (has_place_now t s.ordinal s.name h))

pub set_one : (t : laws.Tables) (s : laws.Assignment) (more : List laws.Assignment) → laws.may_set t s.ordinal s.name s.meaning ≡ true → more ≡ s ∷ t.assignments → record t { assignments = more } ≡ laws.with_assignment t (Some s)
set_one t s more is added = ap (λ l. record t { assignments = l }) added ∙ sym (ap (λ b. if b then record t { assignments = s ∷ t.assignments } else t) is)

-- one extent of the list changes
changed_map : (change : laws.Extent → laws.Extent) (es : List Extent) (n : ℕ) (e w : Extent) → n < length es → e ≡ get_or es n e → extent_of w ≡ change (extent_of e)
    → map extent_of (set es n w) ≡ laws.changed_at n change (map extent_of es)
changed_map change [] n e w inside at is = absurd (omega arith)
changed_map change (x ∷ xs) zero e w inside at is = ap (λ r. r ∷ map extent_of xs) (is ∙ ap (λ y. change (extent_of y)) at)
changed_map change (x ∷ xs) (suc n) e w inside at is = ap (λ r. extent_of x ∷ r) (changed_map change xs n e w (omega arith) at is)

-- the sections alone
abbrev pub sections_in : List Extent → List Section
sections_in es = map (λ (e : laws.Extent). e.section) (map extent_of es)

pub sections_set : (es : List Extent) (n : ℕ) (e w : Extent) → n < length es → e ≡ get_or es n e → section_of w.section ≡ section_of e.section → sections_in (set es n w) ≡ sections_in es
sections_set [] n e w inside at is = absurd (omega arith)
sections_set (x ∷ xs) zero e w inside at is = ap (λ r. r ∷ sections_in xs) (is ∙ ap (λ (y : Extent). section_of y.section) at)
sections_set (x ∷ xs) (suc n) e w inside at is = ap (λ r. section_of x.section ∷ r) (sections_set xs n e w (omega arith) at is)

pub sections_append : (es : List Extent) (e : Extent) → sections_in (es ++ e ∷ []) ≡ sections_in es ++ section_of e.section ∷ []
sections_append es e = ap (map (λ (x : laws.Extent). x.section)) (map-append extent_of es (e ∷ [])) ∙ map-append (λ (x : laws.Extent). x.section) (map extent_of es) (extent_of e ∷ [])

pub sections_length : (es : List Extent) → length (sections_in es) ≡ length es
sections_length es = length-map (map extent_of es) (λ (x : laws.Extent). x.section) ∙ length-map es extent_of

-- they and their alignments, as the code has them
pub sections_are : (es : List Extent) → map extent_section es ≡ sections_in es
sections_are [] = refl
sections_are (e ∷ es) = ap (λ l. section_of e.section ∷ l) (sections_are es)

pub alignments_are : (es : List Extent) → map (λ (e : Extent). e.alignment) es ≡ map (λ (e : laws.Extent). e.alignment) (map extent_of es)
alignments_are [] = refl
alignments_are (e ∷ es) = ap (λ l. e.alignment ∷ l) (alignments_are es)

-- an extent by its index
pub section_found : (es : List Extent) (i : ℕ) (e w : Extent) (d : Section) → i < length es → e ≡ slice_index_or es i w → section_of e.section ≡ slice_index_or (sections_in es) i d
section_found [] i e w d inside is = absurd (omega arith)
section_found (x ∷ xs) zero e w d inside is = ap (λ (y : Extent). section_of y.section) is
section_found (x ∷ xs) (suc i) e w d inside is = section_found xs i e w d (omega arith) is

pub bytes_found : (es : List Extent) (i : ℕ) (e w : Extent) (d : ℕ) → i < length es → e ≡ slice_index_or es i w → e.bytes ≡ slice_index_or (map (λ (x : laws.Extent). x.bytes) (map extent_of es)) i d
bytes_found [] i e w d inside is = absurd (omega arith)
bytes_found (x ∷ xs) zero e w d inside is = ap (λ (y : Extent). y.bytes) is
bytes_found (x ∷ xs) (suc i) e w d inside is = bytes_found xs i e w d (omega arith) is

pub bytes_here : (es : List Extent) (i : ℕ) (e : Extent) → i < length es → e ≡ get_or es i e → e.bytes ≡ slice_index_or (map (λ (x : laws.Extent). x.bytes) (map extent_of es)) i 0
bytes_here [] i e inside is = absurd (omega arith)
bytes_here (x ∷ xs) zero e inside is = ap (λ (y : Extent). y.bytes) is
bytes_here (x ∷ xs) (suc i) e inside is = bytes_here xs i e (omega arith) is

-- data at the end of the current section
abbrev as_extent : Section → ℕ → ℕ → laws.Extent
as_extent section bytes alignment = record { section = section; bytes = bytes; alignment = alignment }

pub extend_is : (es : List Extent) (n : ℕ) (e w : Extent) (bytes : ℕ) (a : Option ℕ)
    → n < length es → e ≡ get_or es n e → section_of w.section ≡ section_of e.section → w.bytes ≡ e.bytes + laws.counted_in (section_of e.section) bytes → w.alignment ≡ max e.alignment (max 1 (laws.or_none a))
    → map extent_of (set es n w) ≡ laws.changed_at n (laws.extended bytes a) (map extent_of es)
extend_is es n e w bytes a inside at section size alignment =
    changed_map (laws.extended bytes a) es n e w inside at
    (ap (λ s. as_extent s w.bytes w.alignment) section
    ∙ ap (λ k. as_extent (section_of e.section) k w.alignment) size
    ∙ ap (λ k. as_extent (section_of e.section) (e.bytes + laws.counted_in (section_of e.section) bytes) k) alignment)

-- past the last section nothing changes
changed_past : {X : Type 0} (n : ℕ) (change : X → X) (xs : List X) → length xs ≤ n → laws.changed_at n change xs ≡ xs
changed_past n change [] past = refl
changed_past zero change (x ∷ xs) past = absurd (omega arith)
changed_past (suc n) change (x ∷ xs) past = ap (λ r. x ∷ r) (changed_past n change xs (omega arith))

pub extend_past : (es : List Extent) (n bytes : ℕ) (a : Option ℕ) → length es ≤ n → map extent_of es ≡ laws.changed_at n (laws.extended bytes a) (map extent_of es)
extend_past es n bytes a past = sym (changed_past n (laws.extended bytes a) (map extent_of es) (omega (arith, past, length-map es extent_of)))

-- past the longest section nothing fits
past_all : (offset bytes : ℕ) → laws.longest_section < offset + bytes → laws.within offset bytes ≡ 0
past_all offset bytes past = by (nat_le (offset + bytes) laws.longest_section) refl
  where
    by : (b : Bool) → nat_le (offset + bytes) laws.longest_section ≡ b → (if b then bytes else 0) ≡ 0
    by true e = absurd (let l : offset + bytes ≤ laws.longest_section = leb-true (offset + bytes) laws.longest_section e in omega (arith, l, past))
    by false e = refl

-- a size that a number can't show doesn't fit, and neither does the greatest number
pub within_cut : (offset size bytes : ℕ) → size ≡ min bytes (2 ^ 64 - 1) → laws.within offset size ≡ laws.within offset bytes
within_cut offset size bytes is = by (nat_le bytes (2 ^ 64 - 1)) refl
  where
    by : (b : Bool) → nat_le bytes (2 ^ 64 - 1) ≡ b → laws.within offset size ≡ laws.within offset bytes
    by true e = let l = leb-true bytes (2 ^ 64 - 1) e in ap (laws.within offset) (let same : size ≡ bytes = omega (arith, is, l) in same)
    by false e =
        let l = leb-false bytes (2 ^ 64 - 1) e in
        let far : 2 ^ 28 < offset + size = omega (arith, is, l) in
        let farther : 2 ^ 28 < offset + bytes = omega (arith, l) in
        past_all offset size far ∙ sym (past_all offset bytes farther)

-- a name that is put in again with what it had
abbrev pub same_name : Bor (List ℕ) → Bor (List ℕ) → Bool
same_name a b = bytes_eq a.now b.now

pub put_back : (name : Bor (List ℕ)) (es : List (Bor (List ℕ) × Label)) (new old : Label) → lookup (λ (k : Bor (List ℕ)). bytes_eq name.now k.now) es ≡ Some old → insert_entry same_name (insert_entry same_name es name new) name old ≡ es
put_back name [] new old found = absurd (cc)
put_back name (e ∷ es) new old found = by (bytes_eq name.now e.0.now) refl found (put_back name es new old)
  where
    by : (b : Bool) → bytes_eq name.now e.0.now ≡ b → cond b (Some e.1) (lookup (λ (k : Bor (List ℕ)). bytes_eq name.now k.now) es) ≡ Some old
        → (lookup (λ (k : Bor (List ℕ)). bytes_eq name.now k.now) es ≡ Some old → insert_entry same_name (insert_entry same_name es name new) name old ≡ es)
        → insert_entry same_name (if b then (e.0, new) ∷ es else e ∷ insert_entry same_name es name new) name old ≡ e ∷ es
    by true is first rest =
        let same : old ≡ e.1 = cc in
        ap (λ c. if c then (e.0, old) ∷ es else (e.0, new) ∷ insert_entry same_name es name old) is ∙ ap (λ (l : Label). (e.0, l) ∷ es) same
    by false is later rest =
        ap (λ c. if c then (e.0, old) ∷ insert_entry same_name es name new else e ∷ insert_entry same_name (insert_entry same_name es name new) name old) is
        ∙ ap (λ l. e ∷ l) (rest later)
