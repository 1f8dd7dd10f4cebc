-- A name is one label, or one location, or constants.

use Rattle.std.proofs.Common.{◌≡◌, ℕ, Bool, true, false, List, [], ◌∷◌, refl, ap, ◌∙◌, subst, Option, Some, None}
use Rattle.std.specs.Prelude.{◌&&◌, nat_lt, if◌then◌else◌}
use Rattle.std.specs.List.{AllByRecursion, find}
use Rattle.std.specs.Str.{bytes_eq}
use Rattle.rv_expression_laws.specs.Expression.{Symbol as Named}
use Rattle.rv_unit_laws.specs.Tables.{Tables, Labelled, Assignment, definition, definition_at, first_definition, labelled_definition, assigned_definition, assigned_before, assigned_ever, label_of, is_location}

module _ (name : List ℕ) where
  abbrev pub OnlySet : Assignment → List Assignment → Type 0
  OnlySet a xs = AllByRecursion (λ x. bytes_eq x.name name ≡ true → x ≡ a) xs

  abbrev pub AreNumbers : List Assignment → Type 0
  AreNumbers xs = AllByRecursion (λ x. bytes_eq x.name name ≡ true → is_location x ≡ false) xs

  -- what any search for the name finds
  found_set : (P : Assignment → Type 0) (test : Assignment → Bool) (xs : List Assignment) → AllByRecursion (λ x. bytes_eq x.name name ≡ true → P x) xs
      → (a : Assignment) → find (λ s. test s && bytes_eq s.name name) xs ≡ Some a → P a
  found_set P test [] h a e = absurd (cc)
  found_set P test (x ∷ xs) (h, hs) a e = go (test x) (bytes_eq x.name name) refl e (found_set P test xs hs a)
    where
      go : (b c : Bool) → bytes_eq x.name name ≡ c → (if b && c then Some x else find (λ s. test s && bytes_eq s.name name) xs) ≡ Some a
          → (find (λ s. test s && bytes_eq s.name name) xs ≡ Some a → P a) → P a
      go true true f e ih =
          let same : x ≡ a = cc in
          subst P same (h f)
      go true false f e ih = ih e
      go false c f e ih = ih e

  none_set : (test : Assignment → Bool) (xs : List Assignment) → find (λ s. bytes_eq s.name name) xs ≡ None → find (λ s. test s && bytes_eq s.name name) xs ≡ None
  none_set test [] e = refl
  none_set test (x ∷ xs) e = go (test x) (bytes_eq x.name name) e (none_set test xs)
    where
      go : (b c : Bool) → (if c then Some x else find (λ s. bytes_eq s.name name) xs) ≡ None → (find (λ s. bytes_eq s.name name) xs ≡ None → find (λ s. test s && bytes_eq s.name name) xs ≡ None)
          → (if b && c then Some x else find (λ s. test s && bytes_eq s.name name) xs) ≡ None
      go b true f ih = absurd (cc)
      go true false f ih = ih f
      go false false f ih = ih f

  module _ (t : Tables) where
    abbrev Label : Option Labelled → Type 0
    Label found = label_of t.labels true 0 name ≡ found

    abbrev Set : Option Assignment → Type 0
    Set found = assigned_ever t.assignments name ≡ found

    -- the definition of a label's name
    pub of_label : (o : ℕ) (l : Labelled) → Label (Some l) → Set None → definition t o (Named name) ≡ Some (definition_at l.ordinal)
    of_label o l e f =
        ap (λ a. first_definition (assigned_definition a) (labelled_definition (label_of t.labels true o name) (assigned_definition (assigned_ever t.assignments name))))
        (none_set (λ s. nat_lt s.ordinal o) t.assignments f)
        ∙ ap (λ x. labelled_definition x (assigned_definition (assigned_ever t.assignments name))) e

    -- that of a place that `.set` gives
    pub of_set : (o : ℕ) (a : Assignment) → Label None → Set (Some a) → OnlySet a t.assignments → is_location a ≡ true
        → definition t o (Named name) ≡ Some (record { ordinal = a.ordinal; plus = a.plus })
    of_set o a e f only l = go (assigned_before t.assignments o name) refl
      where
        given : assigned_definition (Some a) ≡ Some (record { ordinal = a.ordinal; plus = a.plus })
        given = ap (λ b. if b then Some (record { ordinal = a.ordinal; plus = a.plus }) else None) l

        go : (found : Option Assignment) → assigned_before t.assignments o name ≡ found
            → first_definition (assigned_definition found) (labelled_definition (label_of t.labels true o name) (assigned_definition (assigned_ever t.assignments name))) ≡ Some (record { ordinal = a.ordinal; plus = a.plus })
        go None g = ap (λ x. labelled_definition x (assigned_definition (assigned_ever t.assignments name))) e ∙ ap assigned_definition f ∙ given
        go (Some x) g =
            let same : x ≡ a = found_set (λ y. y ≡ a) (λ s. nat_lt s.ordinal o) t.assignments only x g in
            ap (λ y. first_definition (assigned_definition (Some y)) (labelled_definition (label_of t.labels true o name) (assigned_definition (assigned_ever t.assignments name)))) same
            ∙ ap (λ y. first_definition y (labelled_definition (label_of t.labels true o name) (assigned_definition (assigned_ever t.assignments name)))) given

    none_given : (found : Option Assignment) → ((a : Assignment) → found ≡ Some a → is_location a ≡ false) → assigned_definition found ≡ None
    none_given None h = refl
    none_given (Some a) h = ap (λ b. if b then Some (record { ordinal = a.ordinal; plus = a.plus }) else None) (h a refl)

    -- numbers have none
    pub of_numbers : (o : ℕ) → Label None → AreNumbers t.assignments → definition t o (Named name) ≡ None
    of_numbers o e h =
        ap (λ x. first_definition x (labelled_definition (label_of t.labels true o name) (assigned_definition (assigned_ever t.assignments name))))
        (none_given (assigned_before t.assignments o name) (λ a. found_set (λ y. is_location y ≡ false) (λ s. nat_lt s.ordinal o) t.assignments h a))
        ∙ ap (λ x. labelled_definition x (assigned_definition (assigned_ever t.assignments name))) e
        ∙ none_given (assigned_ever t.assignments name) (λ a. found_set (λ y. is_location y ≡ false) (λ s. true) t.assignments h a)
