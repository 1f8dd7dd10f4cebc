-- The relocations of a section, part by part: what each makes of its own bytes is all that there is to show.

use Rattle.std.proofs.Common.{◌≡◌, ℕ, zero, suc, ◌+◌, ◌<◌, ◌≤◌, Bool, true, false, List, [], ◌∷◌, ◌++◌, length, take, drop, refl, sym, ap, ◌∙◌, subst, arith, length-append, map, Some, None, inl, inr}
use Rattle.std.proofs.lemmas.List.{append_assoc}
use Rattle.std.specs.Prelude.{⊤, ℤ, pos, ◌+ℤ◌, ◌^◌, flat_map, Option, unwrap_or, option_map, option_and_then}
use Rattle.std.specs.Int.{w64, int_wrap}
use Rattle.std.specs.List.{AllByRecursion}
use Rattle.rv_list_laws.proofs.TakeDropLemmas.{take_front, drop_front}
use Rattle.rv_isa.specs.declared.kind.Kind.{Kind}
use Rattle.rv_isa.specs.declared.kind.Kind.TheVariants.{Abs32, Abs64, Add8, Add16, Add32, Add64, Sub8, Sub16, Sub32, Sub64}
use Rattle.rv_isa.specs.Kinds.{width_of}
use Rattle.rv_isa_laws.specs.Bytes.{little_endian, number_in, zeros}
use Rattle.rv_isa_laws.proofs.BytesLemmas.{little_long, zeros_long}
use Rattle.rv_reloc_laws.specs.Fields.{patched, written as field_written}
use Rattle.rv_expression_laws.specs.Expression.{Primary}
use Rattle.rv_expression_laws.specs.Values.{Meaning, Constant, Symbolic, Difference, Faulty, add, subtract}
use Rattle.rv_object_laws.specs.Object.{Relocation}
use Rattle.rv_source_laws.specs.Program.{resolved}
use Rattle.rv_assemble_laws.specs.Templates.{Template, Fixed, Datum, Coded, Open, opened, template_fields, IsTemplate, IsWide, IsWidth}
use Rattle.rv_assemble_laws.specs.LaidStatements.{LaidPart, laid_part, part_bytes}
use Rattle.rv_assemble_laws.specs.IsObjectOf.{Numbering, relocation_at, relocations_from}
use Rattle.rv_link_laws.specs.Values.{patched_at, applied}
use Rattle.rv_sources_link_theorems.proofs.fields.NumbersLemmas.{worth, address_32, address_64, difference_8, difference_16, difference_32, difference_64}

-- ---- lists

pub take_drop : (n : ℕ) (xs : List ℕ) → take n xs ++ drop n xs ≡ xs
take_drop zero [] = refl
take_drop zero (x ∷ xs) = refl
take_drop (suc n) [] = refl
take_drop (suc n) (x ∷ xs) = ap (λ l. x ∷ l) (take_drop n xs)

take_long : (n : ℕ) (xs : List ℕ) → n ≤ length xs → length (take n xs) ≡ n
take_long zero xs h = refl
take_long (suc n) [] h = absurd (omega (arith, h))
take_long (suc n) (x ∷ xs) h = ap suc (take_long n xs (omega (arith, h)))

-- ---- one field

-- a field that has just the width of its kind, after the bytes in front
pub patched_here : (front mid rest : List ℕ) (k : Kind) (v : ℤ) → length mid ≡ width_of k
    → patched_at (length front) k v (front ++ (mid ++ rest)) ≡ front ++ (patched k v mid ++ rest)
patched_here front mid rest k v wide =
    let after : drop (length front) (front ++ (mid ++ rest)) ≡ mid ++ rest = drop_front front (mid ++ rest) in
    let own : take (width_of k) (mid ++ rest) ≡ mid = ap (λ n. take n (mid ++ rest)) (sym wide) ∙ take_front mid rest in
    let others : drop (width_of k) (mid ++ rest) ≡ rest = ap (λ n. drop n (mid ++ rest)) (sym wide) ∙ drop_front mid rest in
    ap (λ l. l ++ (patched k v (take (width_of k) (drop (length front) (front ++ (mid ++ rest)))) ++ drop (width_of k) (drop (length front) (front ++ (mid ++ rest)))))
    (take_front front (mid ++ rest))
    ∙ ap (λ l. front ++ (patched k v (take (width_of k) l) ++ drop (width_of k) l)) after
    ∙ ap (λ l. front ++ (patched k v l ++ drop (width_of k) (mid ++ rest))) own
    ∙ ap (λ l. front ++ (patched k v mid ++ l)) others

-- code with its fields filled, each at its start, one after the other
abbrev pub filled_fields : (Open → ℤ) → List Open → List ℕ → List ℕ
filled_fields v [] bytes = bytes
filled_fields v (f ∷ fs) bytes = filled_fields v fs (patched_at 0 f.kind (v f) bytes)

-- what a part writes, by the addresses of symbols in the statement of an ordinal, and by what the
-- fields of code take at an offset
abbrev pub written_template : (Primary → Option ℕ) → (Open → ℤ) → Template → List ℕ
written_template a v (Fixed bytes) = bytes
written_template a v (Datum width value) = little_endian width (unwrap_or (resolved a value) 0)
written_template a v (Coded bytes fields) = filled_fields v fields bytes

abbrev pub written : (ℕ → Primary → Option ℕ) → (ℕ → Open → ℤ) → ℕ → LaidPart → List ℕ
written a v offset p = written_template (a p.ordinal) (v offset) p.template

-- what parts write that follow one another from an offset on
abbrev pub written_from : (ℕ → LaidPart → List ℕ) → ℕ → List LaidPart → List ℕ
written_from w offset [] = []
written_from w offset (p ∷ ps) =
    w offset p ++ written_from w (offset + length (part_bytes p)) ps

-- each field of code lies in its part
abbrev pub HasRoom : Template → Type 0
HasRoom (Fixed bytes) = ⊤
HasRoom (Datum width value) = ⊤
HasRoom (Coded bytes fields) = AllByRecursion (λ (f : Open). width_of f.kind ≤ length bytes) fields

abbrev pub is_data : Kind → Bool
is_data Abs32 = true
is_data Abs64 = true
is_data Add8 = true
is_data Add16 = true
is_data Add32 = true
is_data Add64 = true
is_data Sub8 = true
is_data Sub16 = true
is_data Sub32 = true
is_data Sub64 = true
is_data _ = false

-- ---- the parts of a section

module _ (new : ℕ → ℕ) (same : (n : ℕ) → new n ≡ n) (value : Relocation → ℤ) (number : Numbering) where
  abbrev fields : ℕ → LaidPart → List Relocation
  fields offset p = map (relocation_at number offset) (template_fields p.ordinal p.template)

  applied_append : (xs ys : List Relocation) (bytes : List ℕ) → applied new value (xs ++ ys) bytes ≡ applied new value ys (applied new value xs bytes)
  applied_append [] ys bytes = refl
  applied_append (x ∷ xs) ys bytes = applied_append xs ys (patched_at (new x.place) x.kind (value x) bytes)

  -- the relocations of a part make its bytes what it writes, whatever stands around it
  abbrev pub Makes : (ℕ → LaidPart → List ℕ) → LaidPart → Type 0
  Makes w p =
      ((offset : ℕ) → length (w offset p) ≡ length (part_bytes p))
      × ((front rest : List ℕ) → applied new value (fields (length front) p) (front ++ (part_bytes p ++ rest)) ≡ front ++ (w (length front) p ++ rest))

  pub all_made : (w : ℕ → LaidPart → List ℕ) (front : List ℕ) (offset : ℕ) (ps : List LaidPart) → length front ≡ offset → AllByRecursion (Makes w) ps
      → applied new value (relocations_from number offset ps) (front ++ flat_map part_bytes ps) ≡ front ++ written_from w offset ps
  all_made w front offset [] at h = refl
  all_made w front offset (p ∷ ps) at ((long, makes), hs) =
      let bytes = part_bytes p in
      let rest = flat_map part_bytes ps in
      let later = relocations_from number (offset + length bytes) ps in
      let own = w offset p in
      let wide : length own ≡ length bytes = long offset in
      let next : length (front ++ own) ≡ offset + length bytes = length-append front own ∙ omega (arith, at, wide) in
      applied_append (fields offset p) later (front ++ (bytes ++ rest))
      ∙ ap (applied new value later)
      (ap (λ n. applied new value (fields n p) (front ++ (bytes ++ rest))) (sym at) ∙ makes front rest ∙ ap (λ n. front ++ (w n p ++ rest)) at)
      ∙ ap (applied new value later) (sym (append_assoc front own rest))
      ∙ all_made w (front ++ own) (offset + length bytes) ps next hs
      ∙ append_assoc front own (written_from w (offset + length bytes) ps)

  -- ---- the parts of data

  -- one relocation at the start of a part
  one : (f : Open) (front rest : List ℕ) (mid : List ℕ) → length mid ≡ width_of f.kind → (after : List ℕ)
      → patched f.kind (value (relocation_at number (length front) f)) mid ≡ after
      → patched_at (new (length front)) f.kind (value (relocation_at number (length front) f)) (front ++ (mid ++ rest)) ≡ front ++ (after ++ rest)
  one f front rest mid wide after is =
      let v = value (relocation_at number (length front) f) in
      ap (λ n. patched_at n f.kind v (front ++ (mid ++ rest))) (same (length front))
      ∙ patched_here front mid rest f.kind v wide ∙ ap (λ l. front ++ (l ++ rest)) is

  -- S for each symbol of a relocation, and the address of each symbol of a statement
  module _ (s : Option ℕ → ℕ) (worths : (r : Relocation) → is_data r.kind ≡ true → value r ≡ int_wrap w64 (pos (s r.symbol) +ℤ r.addend))
      (a : ℕ → Primary → Option ℕ) where
    -- a symbol has an address, which is that of its relocation
    pub record IsKnown (ordinal : ℕ) (q : Primary) : Type 0 where
      pub at : ℕ
      pub is : a ordinal q ≡ Some at
      pub meant : s (Some (number ordinal q)) ≡ at
      pub low : at < 2 ^ 64

    worth_at : (kind : Kind) → is_data kind ≡ true → (ordinal : ℕ) (q : Primary) (k offset : ℕ) (known : IsKnown ordinal q)
        → value (relocation_at number offset (opened ordinal kind q k)) ≡ worth known.at k
    worth_at kind is ordinal q k offset known =
        worths (relocation_at number offset (opened ordinal kind q k)) is ∙ ap (λ n. worth n k) known.meant

    symbolic_by : (w : ℕ) (kind : Kind) → width_of kind ≡ w → is_data kind ≡ true → ((n k : ℕ) → patched kind (worth n k) (zeros w) ≡ little_endian w (add n k))
        → (ordinal : ℕ) (q : Primary) (k : ℕ) → IsKnown ordinal q → (front rest : List ℕ)
        → applied new value (map (relocation_at number (length front)) (opened ordinal kind q k ∷ [])) (front ++ (zeros w ++ rest))
        ≡ front ++ (little_endian w (unwrap_or (option_map (λ x. add x k) (a ordinal q)) 0) ++ rest)
    symbolic_by w kind wide is makes ordinal q k known front rest =
        one (opened ordinal kind q k) front rest (zeros w) (zeros_long w ∙ sym wide) (little_endian w (add known.at k))
        (ap (λ v. patched kind v (zeros w)) (worth_at kind is ordinal q k (length front) known) ∙ makes known.at k)
        ∙ ap (λ o. front ++ (little_endian w (unwrap_or (option_map (λ x. add x k) o) 0) ++ rest)) (sym known.is)

    difference_by : (w : ℕ) (plus minus : Kind) → width_of plus ≡ w → width_of minus ≡ w → is_data plus ≡ true → is_data minus ≡ true
        → ((x k : ℕ) → (bytes : List ℕ) × (patched plus (worth x k) (zeros w) ≡ bytes) × (length bytes ≡ w))
        → ((x y k : ℕ) → y < 2 ^ 64 → patched minus (worth y 0) (patched plus (worth x k) (zeros w)) ≡ little_endian w (add (subtract x y) k))
        → (ordinal : ℕ) (q r : Primary) (k : ℕ) → IsKnown ordinal q → IsKnown ordinal r → (front rest : List ℕ)
        → applied new value (map (relocation_at number (length front)) (opened ordinal plus q k ∷ opened ordinal minus r 0 ∷ [])) (front ++ (zeros w ++ rest))
        ≡ front ++ (little_endian w (unwrap_or (resolved (a ordinal) (Difference q r k)) 0) ++ rest)
    difference_by w plus minus wide wide' is is' first makes ordinal q r k x y front rest =
        let added = first x.at k in
        ap (λ l. patched_at (new (length front)) minus (value (relocation_at number (length front) (opened ordinal minus r 0))) l)
        (one (opened ordinal plus q k) front rest (zeros w) (zeros_long w ∙ sym wide) added.0
        (ap (λ v. patched plus v (zeros w)) (worth_at plus is ordinal q k (length front) x) ∙ added.1))
        ∙ one (opened ordinal minus r 0) front rest added.0 (added.2 ∙ sym wide') (little_endian w (add (subtract x.at y.at) k))
        (ap (λ v. patched minus v added.0) (worth_at minus is' ordinal r 0 (length front) y) ∙ ap (patched minus (worth y.at 0)) (sym added.1) ∙ makes x.at y.at k y.low)
        ∙ ap (λ o. front ++ (little_endian w (unwrap_or (resolved_with o (Some y.at)) 0) ++ rest)) (sym x.is)
        ∙ ap (λ o. front ++ (little_endian w (unwrap_or (resolved_with (a ordinal q) o) 0) ++ rest)) (sym y.is)
      where
        resolved_with : Option ℕ → Option ℕ → Option ℕ
        resolved_with o p = option_and_then (λ u. option_map (λ v. add (subtract u v) k) p) o

    abbrev pub IsKnownIn : ℕ → Option Primary → Type 0
    IsKnownIn ordinal None = ⊤
    IsKnownIn ordinal (Some q) = IsKnown ordinal q

    abbrev pub Fields : List Open → Type 0
    Fields fs = AllByRecursion (λ (f : Open). IsKnownIn f.ordinal f.symbol) fs

    -- what a field takes at an offset
    abbrev pub worth_in : ℕ → Open → ℤ
    worth_in offset f = value (relocation_at number offset f)

    symbolic_makes : (width ordinal : ℕ) (q : Primary) (at : Meaning) (k : ℕ) → IsWide width → IsKnown ordinal q → Makes (written a worth_in) (laid_part ordinal (Datum width (Symbolic q at k)))
    symbolic_makes width ordinal q at k (inl e) known =
        subst (λ w. Makes (written a worth_in) (laid_part ordinal (Datum w (Symbolic q at k)))) (sym e)
        ((λ n. little_long 4 (unwrap_or (option_map (λ x. add x k) (a ordinal q)) 0)), symbolic_by 4 Abs32 refl refl address_32 ordinal q k known)
    symbolic_makes width ordinal q at k (inr e) known =
        subst (λ w. Makes (written a worth_in) (laid_part ordinal (Datum w (Symbolic q at k)))) (sym e)
        ((λ n. little_long 8 (unwrap_or (option_map (λ x. add x k) (a ordinal q)) 0)), symbolic_by 8 Abs64 refl refl address_64 ordinal q k known)

    difference_makes : (width ordinal : ℕ) (q r : Primary) (k : ℕ) → IsWidth width → IsKnown ordinal q → IsKnown ordinal r → Makes (written a worth_in) (laid_part ordinal (Datum width (Difference q r k)))
    difference_makes width ordinal q r k (inl e) x y =
        subst (λ w. Makes (written a worth_in) (laid_part ordinal (Datum w (Difference q r k)))) (sym e)
        ((λ n. refl), difference_by 1 Add8 Sub8 refl refl refl refl (λ x k. (patched Add8 (worth x k) (zeros 1), refl, refl)) difference_8 ordinal q r k x y)
    difference_makes width ordinal q r k (inr (inl e)) x y =
        subst (λ w. Makes (written a worth_in) (laid_part ordinal (Datum w (Difference q r k)))) (sym e)
        ((λ n. refl), difference_by 2 Add16 Sub16 refl refl refl refl (λ x k. (patched Add16 (worth x k) (zeros 2), refl, refl)) difference_16 ordinal q r k x y)
    difference_makes width ordinal q r k (inr (inr (inl e))) x y =
        subst (λ w. Makes (written a worth_in) (laid_part ordinal (Datum w (Difference q r k)))) (sym e)
        ((λ n. refl), difference_by 4 Add32 Sub32 refl refl refl refl (λ x k. (patched Add32 (worth x k) (zeros 4), refl, refl)) difference_32 ordinal q r k x y)
    difference_makes width ordinal q r k (inr (inr (inr e))) x y =
        subst (λ w. Makes (written a worth_in) (laid_part ordinal (Datum w (Difference q r k)))) (sym e)
        ((λ n. refl), difference_by 8 Add64 Sub64 refl refl refl refl (λ x k. (patched Add64 (worth x k) (zeros 8), refl, refl)) difference_64 ordinal q r k x y)

    -- ---- the parts of code

    -- a field at the start of a part, whatever stands around it
    patched_start : (front bytes rest : List ℕ) (k : Kind) (v : ℤ) → width_of k ≤ length bytes
        → patched_at (length front) k v (front ++ (bytes ++ rest)) ≡ front ++ (patched_at 0 k v bytes ++ rest)
    patched_start front bytes rest k v wide =
        let w = width_of k in
        let own = take w bytes in
        let others = drop w bytes in
        let cut : own ++ others ≡ bytes = take_drop w bytes in
        let long : length own ≡ w = take_long w bytes wide in
        ap (λ l. patched_at (length front) k v (front ++ l)) (ap (λ l. l ++ rest) (sym cut) ∙ append_assoc own others rest)
        ∙ patched_here front own (others ++ rest) k v long
        ∙ ap (λ l. front ++ l) (sym (append_assoc (patched k v own) others rest))

    patched_long : (k : Kind) (v : ℤ) (bytes : List ℕ) → width_of k ≤ length bytes → length (patched_at 0 k v bytes) ≡ length bytes
    patched_long k v bytes wide =
        let w = width_of k in
        let own = take w bytes in
        let others = drop w bytes in
        let cut : length (own ++ others) ≡ length bytes = ap length (take_drop w bytes) in
        let long : length own ≡ w = take_long w bytes wide in
        let new_long : length (patched k v own) ≡ w = little_long w (field_written k v (number_in own)) in
        let both : length (own ++ others) ≡ length own + length others = length-append own others in
        length-append (patched k v own) others ∙ omega (arith, cut, long, new_long, both)

    filled_long : (v : Open → ℤ) (fs : List Open) (bytes : List ℕ) → AllByRecursion (λ (f : Open). width_of f.kind ≤ length bytes) fs
        → length (filled_fields v fs bytes) ≡ length bytes
    filled_long v [] bytes h = refl
    filled_long v (f ∷ fs) bytes (h, hs) =
        let after = patched_at 0 f.kind (v f) bytes in
        let long : length after ≡ length bytes = patched_long f.kind (v f) bytes h in
        filled_long v fs after (subst (λ n. AllByRecursion (λ (f : Open). width_of f.kind ≤ n) fs) (sym long) hs) ∙ long

    code_makes : (fs : List Open) (bytes front rest : List ℕ) → AllByRecursion (λ (f : Open). width_of f.kind ≤ length bytes) fs
        → applied new value (map (relocation_at number (length front)) fs) (front ++ (bytes ++ rest)) ≡ front ++ (filled_fields (worth_in (length front)) fs bytes ++ rest)
    code_makes [] bytes front rest h = refl
    code_makes (f ∷ fs) bytes front rest (h, hs) =
        let v = worth_in (length front) f in
        let after = patched_at 0 f.kind v bytes in
        let long : length after ≡ length bytes = patched_long f.kind v bytes h in
        ap (applied new value (map (relocation_at number (length front)) fs))
        (ap (λ n. patched_at n f.kind v (front ++ (bytes ++ rest))) (same (length front)) ∙ patched_start front bytes rest f.kind v h)
        ∙ code_makes fs after front rest (subst (λ n. AllByRecursion (λ (f : Open). width_of f.kind ≤ n) fs) (sym long) hs)

    -- each part makes what it writes
    template_makes : (ordinal : ℕ) (t : Template) → IsTemplate t → HasRoom t → Fields (template_fields ordinal t) → Makes (written a worth_in) (laid_part ordinal t)
    template_makes ordinal (Fixed bytes) h room known = ((λ n. refl), λ front rest. refl)
    template_makes ordinal (Datum width (Constant n)) h room known = ((λ n. refl), λ front rest. refl)
    template_makes ordinal (Datum width (Symbolic q at k)) h room (known, tt) = symbolic_makes width ordinal q at k h known
    template_makes ordinal (Datum width (Difference q r k)) h room (x, (y, tt)) = difference_makes width ordinal q r k h x y
    template_makes ordinal (Datum width (Faulty code)) h room known = absurd h
    template_makes ordinal (Coded bytes fs) h room known =
        ((λ n. filled_long (worth_in n) fs bytes room), λ front rest. code_makes fs bytes front rest room)

    pub makes : (ps : List LaidPart) → AllByRecursion (λ p. IsTemplate p.template) ps → AllByRecursion (λ p. HasRoom p.template) ps
        → AllByRecursion (λ p. Fields (template_fields p.ordinal p.template)) ps → AllByRecursion (Makes (written a worth_in)) ps
    makes [] h room k = tt
    makes (p ∷ ps) (h, hs) (r, rs) (k, ks) = (template_makes p.ordinal p.template h r k, makes ps hs rs ks)
