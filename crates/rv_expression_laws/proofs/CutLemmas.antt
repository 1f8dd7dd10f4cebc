-- The laws of cutting: by a finder that answers exactly what stands at the front, each list is cut in one way.

use Rattle.std.proofs.Common.{◌≡◌, ℕ, zero, suc, ◌<◌, ◌≤◌, List, [], ◌∷◌, ◌++◌, length, take, drop, refl, sym, ◌∙◌, ap, subst, append_assoc, arith, length-append, length-drop, Option, Some, None}
use Rattle.std.proofs.Math.Seq.{take-append_seam, drop-append_seam}
use Rattle.std.proofs.lemmas.List.{take-append-drop, length-take-le}
use Rattle.rv_list_laws.proofs.ElementsLemmas.{no_room}
use Rattle.rv_expression_laws.specs.Cut.{Piece, texts, Each, Cuts, NothingReads, cut_in, cut, Finds}

-- the answers of one step of a cut
cut_in-none : {K A : Type 0} (room : ℕ) (at : List A → Option (K × ℕ)) (all : List A) → at all ≡ None → cut_in room at all ≡ ([], all)
cut_in-none zero at all e = refl
cut_in-none (suc room) at all e = rw (e, cut_in) refl

cut_in-some : {K A : Type 0} (room : ℕ) (at : List A → Option (K × ℕ)) (all : List A) (k : K) (n : ℕ) → at all ≡ Some (k, n)
    → cut_in (suc room) at all ≡ (record { kind = k; text = take n all } ∷ (cut_in room at (drop n all)).0, (cut_in room at (drop n all)).1)
cut_in-some room at all k n e = rw (e, cut_in) refl

-- a finder's answer, its text and the rest as parts of the list
pub record Front (K A : Type 0) (Spells Stops : K → List A → Type 0) (all : List A) (k : K) (n : ℕ) : Type 0 where
  pub whole : all ≡ take n all ++ drop n all
  pub spelled : Spells k (take n all)
  pub stops : Stops k (drop n all)
  pub is_length : length (take n all) ≡ n
  pub some : 0 < n

module _ {K A : Type 0} {Spells Stops : K → List A → Type 0} {at : List A → Option (K × ℕ)} (finds : Finds K A Spells Stops at) where
  -- what the finder answers, at the front
  pub front : (all : List A) (k : K) (n : ℕ) → at all ≡ Some (k, n) → Front K A Spells Stops all k n
  front all k n e =
      let f = finds.found all k n e in
      parts f.0 f.1 f.2 f.3 f.4 f.5
    where
      parts : (text rest : List A) → all ≡ text ++ rest → n ≡ length text → Spells k text → Stops k rest → Front K A Spells Stops all k n
      parts text rest whole len spelled stops =
          let t : take n all ≡ text = ap (λ m. take m all) len ∙ ap (take (length text)) whole ∙ take-append_seam text rest in
          let d : drop n all ≡ rest = ap (λ m. drop m all) len ∙ ap (drop (length text)) whole ∙ drop-append_seam text rest in
          record {
            whole = rw (t, d) whole;
            spelled = rw t spelled;
            stops = rw d stops;
            is_length = rw t (sym len);
            some = rw len (finds.some k text spelled);
          }

  pub nothing_none : (all : List A) → NothingReads Spells Stops all → at all ≡ None
  nothing_none all nothing = go (at all) refl
    where
      go : (o : Option (K × ℕ)) → at all ≡ o → o ≡ None
      go None e = refl
      go (Some (k, n)) e =
          let f = front all k n e in
          absurd (nothing k (take n all) (drop n all) f.whole f.spelled f.stops)

  pub none_nothing : (all : List A) → at all ≡ None → NothingReads Spells Stops all
  none_nothing all e k text after whole spelled stops =
      let here : at (text ++ after) ≡ Some (k, length text) = finds.is k text after spelled stops in
      let none : at (text ++ after) ≡ None = ap at (sym whole) ∙ e in
      cc

  -- nothing stands at the front of an empty list
  empty_none : (all : List A) → length all ≤ 0 → at all ≡ None
  empty_none all le = go (at all) refl
    where
      go : (o : Option (K × ℕ)) → at all ≡ o → o ≡ None
      go None e = refl
      go (Some (k, n)) e =
          let f = front all k n e in
          absurd (no_room (take n all) (drop n all) (subst (λ xs. length xs ≤ 0) f.whole le) (rw (f.is_length) f.some))

  -- a cut's pieces and its rest, given room
  cuts_in : (room : ℕ) (all : List A) → length all ≤ room
      → Cuts K A Spells Stops all (cut_in room at all).0 (cut_in room at all).1 × (at (cut_in room at all).1 ≡ None)
  cuts_in zero all le = (record { whole = refl; each = tt }, empty_none all le)
  cuts_in (suc room) all le = go (at all) refl (λ n h. cuts_in room (drop n all) h)
    where
      Cut-ok : List (Piece K A) × List A → Type 0
      Cut-ok c = Cuts K A Spells Stops all c.0 c.1 × (at c.1 ≡ None)

      more : (k : K) (n : ℕ) → Front K A Spells Stops all k n → (ps : List (Piece K A)) (rest : List A) → Cuts K A Spells Stops (drop n all) ps rest → Cuts K A Spells Stops all (record { kind = k; text = take n all } ∷ ps) rest
      more k n f ps rest c = record {
        whole = f.whole ∙ ap (λ xs. take n all ++ xs) c.whole ∙ sym (append_assoc (take n all) (texts ps) rest);
        each = (f.spelled, subst (Stops k) c.whole f.stops, c.each);
      }

      go : (o : Option (K × ℕ)) → at all ≡ o
          → ((n : ℕ) → length (drop n all) ≤ room → Cuts K A Spells Stops (drop n all) (cut_in room at (drop n all)).0 (cut_in room at (drop n all)).1 × (at (cut_in room at (drop n all)).1 ≡ None))
          → Cuts K A Spells Stops all (cut_in (suc room) at all).0 (cut_in (suc room) at all).1 × (at (cut_in (suc room) at all).1 ≡ None)
      go None e ih = subst Cut-ok (sym (cut_in-none (suc room) at all e)) (record { whole = refl; each = tt }, e)
      go (Some (k, n)) e ih =
          let f = front all k n e in
          let some : 0 < n = f.some in
          let fits : length (drop n all) ≤ room = omega (arith, length-drop n all) in
          let r = ih n fits in
          subst Cut-ok (sym (cut_in-some room at all k n e)) (more k n f _ _ r.0, r.1)

  -- a cut that goes as far as it can is the finder's
  unique_in : (room : ℕ) (ps : List (Piece K A)) (rest : List A) → length (texts ps ++ rest) ≤ room → Each Spells Stops ps rest → at rest ≡ None
      → cut_in room at (texts ps ++ rest) ≡ (ps, rest)
  unique_in room [] rest le each none = cut_in-none room at rest none
  unique_in zero (p ∷ ps) rest le each none =
      absurd (no_room p.text (texts ps ++ rest) (subst (λ xs. length xs ≤ 0) (append_assoc p.text (texts ps) rest) le) (finds.some p.kind p.text each.0))
  unique_in (suc room) (p ∷ ps) rest le each none =
      let more : List A = texts ps ++ rest in
      let whole : (p.text ++ texts ps) ++ rest ≡ p.text ++ more = append_assoc p.text (texts ps) rest in
      let some : 0 < length p.text = finds.some p.kind p.text each.0 in
      let here : at (p.text ++ more) ≡ Some (p.kind, length p.text) = finds.is p.kind p.text more each.0 each.1 in
      let le-more : length more ≤ room = omega (arith, length-append p.text more, subst (λ xs. length xs ≤ suc room) whole le) in
      ap (cut_in (suc room) at) whole
      ∙ cut_in-some room at (p.text ++ more) p.kind (length p.text) here
      ∙ rw (take-append_seam p.text more, drop-append_seam p.text more, unique_in room ps rest le-more each.2 none) refl

  -- every list is cut
  pub cuts : (all : List A) → Cuts K A Spells Stops all (cut at all).0 (cut at all).1 × (at (cut at all).1 ≡ None)
  unfolding cut
  cuts all = let le : length all ≤ length all = omega arith in cuts_in (length all) all le

  -- in one way
  pub unique : (all : List A) (ps : List (Piece K A)) (rest : List A) → Cuts K A Spells Stops all ps rest → at rest ≡ None → cut at all ≡ (ps, rest)
  unfolding cut
  unique all ps rest c none =
      let le : length (texts ps ++ rest) ≤ length all = rw (sym c.whole) (omega arith) in
      ap (cut_in (length all) at) c.whole ∙ unique_in (length all) ps rest le c.each none

  -- piece by piece
  pub cut-some : (all : List A) (k : K) (n : ℕ) → at all ≡ Some (k, n)
      → cut at all ≡ (record { kind = k; text = take n all } ∷ (cut at (drop n all)).0, (cut at (drop n all)).1)
  cut-some all k n e =
      let f = front all k n e in
      let r = cuts (drop n all) in
      unique all (record { kind = k; text = take n all } ∷ (cut at (drop n all)).0) (cut at (drop n all)).1
      (record {
        whole = f.whole ∙ ap (λ xs. take n all ++ xs) r.0.whole ∙ sym (append_assoc (take n all) (texts (cut at (drop n all)).0) (cut at (drop n all)).1);
        each = (f.spelled, subst (Stops k) r.0.whole f.stops, r.0.each);
      })
      r.1

  pub cut-none : (all : List A) → at all ≡ None → cut at all ≡ ([], all)
  cut-none all e = unique all [] all (record { whole = refl; each = tt }) e

-- a finder's answer stands at the front
pub record Stands (K A : Type 0) (Spells Stops : K → List A → Type 0) (all : List A) (k : K) (n : ℕ) : Type 0 where
  pub within : n ≤ length all
  pub spelled : Spells k (take n all)
  pub stops : Stops k (drop n all)

abbrev pub Answers : (K A : Type 0) (Spells Stops : K → List A → Type 0) (all : List A) → Option (K × ℕ) → Type 0
Answers K A Spells Stops all None = Unit {0}
Answers K A Spells Stops all (Some f) = Stands K A Spells Stops all f.0 f.1

-- what is found, from what each answer says
pub found_by : (K A : Type 0) (Spells Stops : K → List A → Type 0) (at : List A → Option (K × ℕ))
    → ((all : List A) → Answers K A Spells Stops all (at all))
    → (all : List A) (k : K) (n : ℕ) → at all ≡ Some (k, n) → (text : List A) × (rest : List A) × (all ≡ text ++ rest) × (n ≡ length text) × Spells k text × Stops k rest
found_by K A Spells Stops at answers all k n e =
    let s = subst (Answers K A Spells Stops all) e (answers all) in
    let within : n ≤ length all = s.within in
    (take n all, drop n all, sym (take-append-drop n all), sym (length-take-le n all within), s.spelled, s.stops)
