-- The relocations of statements of code lie within them.

use Rattle.std.proofs.Common.{◌≡◌, ℕ, zero, suc, ◌+◌, ◌%◌, ◌≤◌, ◌<◌, Bool, true, false, Option, List, [], ◌∷◌, ◌++◌, length, length-append, map, refl, sym, ap, ◌∙◌, subst, arith, ◌⊎◌, inl, inr}
use Rattle.std.specs.Prelude.{⊤, ◌&&◌, flat_map, unwrap_or}
use Rattle.std.specs.List.{AllByRecursion}
use Rattle.rv_list_laws.proofs.EachLemmas.{each_append}
use Rattle.rv_isa.specs.declared.kind.Kind.{Kind}
use Rattle.rv_isa.specs.declared.kind.Kind.TheVariants as kinds
use Rattle.rv_isa.specs.Kinds.{width_of}
use Rattle.rv_expression_laws.specs.Values.{Value}
use Rattle.rv_statement_laws.specs.Statement.{StatementKind, Label, Numbered, Instruction, Directs, Expression, Enters, Opens, Binds, Sets, Chooses, Ignored, Aligns, Emits}
use Rattle.rv_pseudo_laws.specs.Code.{Part as CodePart, Closed, Open as Open_part, Joined}
use Rattle.rv_pseudo_laws.specs.Filled.{are_closed}
use Rattle.rv_unit_laws.specs.Sections.{Section as SourceSection}
use Rattle.rv_unit_laws.specs.Tables.{Tables}
use Rattle.rv_source_laws.proofs.HeldLemmas.{IsHeld}
use Rattle.rv_object_laws.specs.Object.{Relocation}
use Rattle.rv_object_laws.specs.Padding.{no_operations}
use Rattle.rv_parcel.specs.declared.form.Compressed.{Compressed}
use Rattle.rv_object_laws.proofs.NopsLemmas.{length_even}
use Rattle.rv_assemble_laws.specs.Coded.{IsCodedPart, AreCodedParts}
use Rattle.rv_assemble_laws.specs.Templates.{Template, Fixed, Datum, Coded, Open, template_fields, padding_templates}
use Rattle.rv_assemble_laws.specs.LaidStatements.{LaidStatement, expression_value, laid_part, part_bytes, coded_templates, HasSize}
use Rattle.rv_assemble_laws.specs.IsObjectOf.{Numbering, relocation_at, relocations_from}
use Rattle.rv_filling_theorems.proofs.AllLemmas.{encoded_long}
use Rattle.rv_sources_link_theorems.proofs.sections.AssembledLemmas.{assembled_templates, parts_of}
use Rattle.rv_sources_link_theorems.proofs.statements.CodingLemmas.{encoded_two_or_four, joined_long}
use Rattle.rv_sources_link_theorems.proofs.statements.FieldedLemmas.{part_kinds}
use Rattle.rv_sources_link_theorems.proofs.statements.MarkedLemmas.{part_fields}
use Rattle.rv_sources_link_theorems.proofs.statements.PadsLemmas.{IsPlainLaid, IsPadLaid, bare_before, sort_of}
use Rattle.rv_sources_link_theorems.proofs.statements.SettledLemmas.{IsLaidIn}
use Rattle.rv_sources_link_theorems.proofs.moves.WalkLemmas.{power_some}

-- a relocation in the bytes from an offset on
abbrev pub InRange : ℕ → ℕ → Relocation → Type 0
InRange o n r = (o ≤ r.place) × (r.place < o + n) × (r.place + width_of r.kind ≤ o + n)

-- a template of code, whose fields lie in its bytes
abbrev pub IsSolid : Template → Type 0
IsSolid (Fixed bytes) = ⊤
IsSolid (Datum width v) = ⊥
IsSolid (Coded bytes fields) = AllByRecursion (λ (f : Open). (width_of f.kind ≤ length bytes) × (0 < length bytes)) fields

module _ (number : Numbering) where
  solid_fields : (o n : ℕ) (bytes : List ℕ) (fs : List Open) → length bytes ≤ n → AllByRecursion (λ (f : Open). (width_of f.kind ≤ length bytes) × (0 < length bytes)) fs
      → AllByRecursion (InRange o n) (map (relocation_at number o) fs)
  solid_fields o n bytes [] low h = tt
  solid_fields o n bytes (f ∷ fs) low ((w, some), hs) =
      let wide = width_of f.kind in
      let fits : wide ≤ length bytes = w in
      ((omega arith, omega (arith, some, low), omega (arith, fits, low)), solid_fields o n bytes fs low hs)

  further : (o n m : ℕ) (rs : List Relocation) → AllByRecursion (InRange (o + m) n) rs → AllByRecursion (InRange o (m + n)) rs
  further o n m [] h = tt
  further o n m (r ∷ rs) ((a, b, c), hs) =
      let wide = width_of r.kind in
      let end : r.place + wide ≤ o + m + n = c in
      ((omega (arith, a), omega (arith, b), omega (arith, end)), further o n m rs hs)

  wider : (o n m : ℕ) (rs : List Relocation) → n ≤ m → AllByRecursion (InRange o n) rs → AllByRecursion (InRange o m) rs
  wider o n m [] low h = tt
  wider o n m (r ∷ rs) low ((a, b, c), hs) =
      let wide = width_of r.kind in
      let end : r.place + wide ≤ o + n = c in
      ((a, omega (arith, b, low), omega (arith, end, low)), wider o n m rs low hs)

  own_range : (o ordinal : ℕ) (q : Template) → IsSolid q → AllByRecursion (InRange o (length (part_bytes (laid_part ordinal q)))) (map (relocation_at number o) (template_fields ordinal q))
  own_range o ordinal (Fixed bytes) h = tt
  own_range o ordinal (Datum width v) h = absurd h
  own_range o ordinal (Coded bytes fields) h = solid_fields o (length bytes) bytes fields (omega arith) h

  pub ranges : (o ordinal : ℕ) (ts : List Template) → AllByRecursion IsSolid ts
      → AllByRecursion (InRange o (length (flat_map part_bytes (map (laid_part ordinal) ts)))) (relocations_from number o (map (laid_part ordinal) ts))
  ranges o ordinal [] h = tt
  ranges o ordinal (q ∷ ts) (h, hs) =
      let own = length (part_bytes (laid_part ordinal q)) in
      let rest = length (flat_map part_bytes (map (laid_part ordinal) ts)) in
      let both : length (part_bytes (laid_part ordinal q) ++ flat_map part_bytes (map (laid_part ordinal) ts)) ≡ own + rest = length-append (part_bytes (laid_part ordinal q)) (flat_map part_bytes (map (laid_part ordinal) ts)) in
      subst (λ n. AllByRecursion (InRange o n) (relocations_from number o (map (laid_part ordinal) (q ∷ ts)))) (sym both)
      (each_append (InRange o (own + rest)) (map (relocation_at number o) (template_fields ordinal q)) (relocations_from number (o + own) (map (laid_part ordinal) ts))
      (wider o own (own + rest) (map (relocation_at number o) (template_fields ordinal q)) (omega arith) (own_range o ordinal q h))
      (further o rest own (relocations_from number (o + own) (map (laid_part ordinal) ts)) (ranges (o + own) ordinal ts hs)))

-- ---- code

part_solid : (t : Tables) (v : Expression → Value) (z : LaidStatement) (named : Option Compressed) (c : Bool) (p : CodePart) (bytes : List ℕ) → IsCodedPart named c p bytes → IsSolid (Coded bytes (part_fields t v z.located p))
part_solid t v z named c (Closed i) bytes h = tt
part_solid t v z named c (Open_part k i) bytes h =
    part_kinds (λ k. (width_of k ≤ length bytes) × (0 < length bytes)) t v z.located (Open_part k i)
    (λ q j e. (let same : k ≡ q = cc in subst (λ x. (width_of x ≤ length bytes) × (0 < length bytes)) same
    ((let wide = width_of k in let l : length bytes ≡ wide = long in let f : wide ≤ length bytes = omega (arith, l) in f), some (encoded_two_or_four i (width_of k) bytes h.1))))
    (λ q i j e. absurd (cc)) (omega arith, some (encoded_two_or_four i (width_of k) bytes h.1))
  where
    long : length bytes ≡ width_of k
    long = encoded_long i (width_of k) bytes h.1

    some : (width_of k ≡ 2) ⊎ (width_of k ≡ 4) → 0 < length bytes
    some (inl e) = omega (arith, long, e)
    some (inr e) = omega (arith, long, e)
part_solid t v z named c (Joined k i j) bytes (fits, also, (first, (second, x, y, is))) =
    let long : length bytes ≡ 8 = joined_long i j bytes first second x y is in
    part_kinds (λ k. (width_of k ≤ length bytes) × (0 < length bytes)) t v z.located (Joined k i j)
    (λ q j e. absurd (cc)) (λ q i j e. (let w = width_low q in (omega (arith, long, w), omega (arith, long)))) (omega arith, omega (arith, long))
  where
    width_low : (k : Kind) → width_of k ≤ 8
    width_low kinds.None = omega arith
    width_low k = omega arith

coded_solid : (t : Tables) (v : Expression → Value) (z : LaidStatement) (named : Option Compressed) (c : Bool) (ps : List CodePart) (coded : List (List ℕ)) → AreCodedParts named c ps coded
    → AllByRecursion IsSolid (coded_templates (part_fields t v z.located) ps coded)
coded_solid t v z named c [] coded h = tt
coded_solid t v z named c (p ∷ ps) [] h = tt
coded_solid t v z named c (p ∷ ps) (bytes ∷ coded) (h, hs) = (part_solid t v z named c p bytes h, coded_solid t v z named c ps coded hs)

padding_solid : (b : Bool) (ordinal bytes : ℕ) → bytes % 2 ≡ 0 → AllByRecursion IsSolid (padding_templates b ordinal bytes)
padding_solid true ordinal zero even = tt
padding_solid true ordinal (suc n) even =
    let long : length (no_operations (suc n)) ≡ suc n = length_even (suc n) even in
    (((omega arith, (let f : 0 < length (no_operations (suc n)) = omega (arith, long) in f)), tt), tt)
padding_solid false ordinal bytes even = (tt, tt)

module _ (t : Tables) (section : SourceSection) (multiple : ℕ) (z : LaidStatement) (code : section.executable ≡ true) where
  no_data : {A : Type 0} → section.executable ≡ false → A
  no_data aside = let e : true ≡ false = sym code ∙ aside in absurd (cc)

  pub solid : (kind : StatementKind) → IsHeld section kind → HasSize (expression_value t z.located) z multiple kind → z.bytes % 2 ≡ 0 → AllByRecursion IsSolid (assembled_templates t z kind)
  solid (Label name) held size even = tt
  solid (Numbered number) held size even = tt
  solid (Instruction m os) held size even =
      subst (λ o. AllByRecursion IsSolid (coded_templates (part_fields t (expression_value t z.located) z.located) (unwrap_or o []) z.coded)) (sym size.parts)
      (coded_solid t (expression_value t z.located) z _ (z.located.options.rvc && are_closed size.ps) size.ps z.coded size.coded_as)
  solid (Directs (Emits contents)) held size even = no_data held.0
  solid (Directs (Aligns form e)) held size even = padding_solid z.located.home.executable z.located.ordinal z.bytes even
  solid (Directs (Enters opened)) held size even = tt
  solid (Directs (Opens name flags k)) held size even = tt
  solid (Directs (Binds binding names)) held size even = tt
  solid (Directs (Sets name e)) held size even = tt
  solid (Directs (Chooses choice)) held size even = tt
  solid (Directs Ignored) held size even = tt

-- ---- a statement of a section of text

module _ (t : Tables) (number : Numbering) (j : ℕ) (s : SourceSection) (code : s.executable ≡ true) (multiple : ℕ) (z : LaidStatement) (inside : IsLaidIn j s z) (bytes : z.bytes ≡ length (flat_map part_bytes (parts_of t z)))
    (size : z.located.placed ≡ true → HasSize (expression_value t z.located) z multiple z.located.kind) where
  pub even_bytes : z.bytes % 2 ≡ 0
  even_bytes = go (sort_of t s multiple z inside.home j inside bytes size)
    where
      go : IsPlainLaid t s multiple z z.located.kind ⊎ IsPadLaid t s multiple z z.located.kind → z.bytes % 2 ≡ 0
      go (inl h) = h.even code
      go (inr h) = ap (λ n. n % 2) h.full ∙ (power_some h.a h.power).1

  pub in_range : AllByRecursion (InRange z.offset z.bytes) (relocations_from number z.offset (parts_of t z))
  in_range = subst (λ n. AllByRecursion (InRange z.offset n) (relocations_from number z.offset (parts_of t z))) (sym bytes) (ranges number z.offset z.located.ordinal (assembled_templates t z z.located.kind) (go z.located.placed refl))
    where
      go : (b : Bool) → z.located.placed ≡ b → AllByRecursion IsSolid (assembled_templates t z z.located.kind)
      go true e = solid t s multiple z code z.located.kind inside.held (size e) even_bytes
      go false e = subst (λ l. AllByRecursion IsSolid l) (sym (bare_before z.located.kind (λ q y. inside.bare e q y) t z)) tt
