-- The rows of a section of data: each has the bytes of its statement, and stands that far behind the section's start where the
-- statement stands in the section.

use Rattle.std.proofs.Common.{◌≡◌, ℕ, ◌+◌, ◌-◌, ◌*◌, ◌/◌, ◌%◌, Bool, true, false, ◌&&◌, List, [], ◌∷◌, ◌++◌, length, length-append, map, refl, sym, ap, ◌∙◌, subst, arith, Option, Some, None, option_map, IfSome}
use Rattle.std.specs.Prelude.{if◌then◌else◌, filter, flat_map, unwrap_or, replicate}
use Rattle.std.specs.List.{AllByRecursion}
use Rattle.std.proofs.Math.Nat.{mod-add-div', mul_assoc, mul-suc}
use Rattle.std.proofs.lemmas.Bool.{both_ways}
use Rattle.std.proofs.lemmas.List.{length-replicate}
use Rattle.rv_isa_laws.specs.Bytes.{little_endian}
use Rattle.rv_isa_laws.proofs.BytesLemmas.{little_long}
use Rattle.rv_size_laws.specs.Alignment.{aligned}
use Rattle.rv_size_laws.proofs.AlignmentLemmas.{padding_on}
use Rattle.rv_expression_laws.specs.Values.{Value}
use Rattle.rv_statement_laws.specs.Statement.{StatementKind, Label, Numbered, Instruction, Directs, Expression, Directive, Enters, Opens, Binds, Sets, Chooses, Ignored, Data, Values, Strings, Zeros}
use Rattle.rv_pseudo_laws.specs.Code.{Part}
use Rattle.rv_pseudo_laws.specs.Filled.{FieldValue, filled}
use Rattle.rv_map_laws.specs.declared.map.Row.{Row}
use Rattle.rv_unit_laws.specs.Contributions.{Contribution, Nothing, Bytes, Alignment, contribution}
use Rattle.rv_unit_laws.specs.Tables.{padding, alignment_as, contribution_alignment, counted, or_none, data_size}
use Rattle.rv_unit_laws.proofs.GrownLemmas.{BeginsAt}
use Rattle.rv_source_laws.specs.Located.{Located}
use Rattle.rv_source_laws.specs.Program.{MaybeMapped, Mapped, Program, seated, mapped_of, address, resolved, form, number, has_values}
use Rattle.rv_source_laws.specs.Lines.{constants, parts_by_size, field_value}
use Rattle.rv_source_laws.specs.Start.{spelled_data, spelled_said, spelled_contribution}
use Rattle.rv_source_laws.specs.Fits.{IsRowOf, IsPaddingIn, ContributionFits, DirectiveFits, StatementFits, SizeFits, Follow}
use Rattle.rv_source_laws.proofs.HeldLemmas.{IsHeld}
use Rattle.rv_value_theorems.proofs.AddedLemmas.{HasCount, contribution_in, own_bytes, IsSound}
use Rattle.rv_value_theorems.proofs.WalkLemmas.{Runs}

-- ---- paddings

multiple : (a n : ℕ) → a % n ≡ 0 → a ≡ a / n * n
multiple a n none = sym (mod-add-div' a n) ∙ ap (λ x. x + a / n * n) none ∙ (let e : 0 + a / n * n ≡ a / n * n = omega arith in e)

less_both : (a x y : ℕ) → a + x - (a + y) ≡ x - y
less_both a x y = omega arith

same_padding : (alignment : Option ℕ) (a begins o : ℕ) → BeginsAt alignment begins → a % begins ≡ 0 → padding alignment (a + o) ≡ padding alignment o
same_padding None a begins o h none = refl
same_padding (Some n) a begins o (some, divides) none =
    let q = a / begins * (begins / n) in
    let is : a ≡ q * n = multiple a begins none ∙ ap (λ x. a / begins * x) (multiple begins n divides) ∙ sym (mul_assoc (a / begins) (begins / n) n) in
    ap (λ x. aligned n (x + o) - (x + o)) is ∙ ap (λ x. x - (q * n + o)) (padding_on n q o some) ∙ less_both (q * n) (aligned n o) o

-- ---- the bytes of a row

no_instructions : (b : Bool) (f : FieldValue) (a : ℕ) (ps : Option (List Part)) (r : Row) → ps ≡ Some [] → IsRowOf (if b then option_map (filled f a) ps else None) r → r.bytes ≡ 0
no_instructions false f a ps r is fits = absurd fits
no_instructions true f a ps r is fits =
    let none : IsRowOf (Some []) r = subst (λ x. IsRowOf (option_map (filled f a) x) r) is fits in
    let count : r.instructions ≡ 0 = none.1 in
    let most = none.3 in
    omega (arith, count, most)

length_numbers : (width : ℕ) (v : Expression → ℕ) (values : List Expression) → length (flat_map (λ e. little_endian width (v e)) values) ≡ width * length values
length_numbers width v [] = let e : 0 ≡ width * 0 = omega arith in e
length_numbers width v (e ∷ es) =
    let one = little_long width (v e) in
    let rest = length_numbers width v es in
    let both = length-append (little_endian width (v e)) (flat_map (λ x. little_endian width (v x)) es) in
    both ∙ ap (λ n. n + length (flat_map (λ x. little_endian width (v x)) es)) one ∙ ap (λ n. width + n) rest ∙ (let x : width + width * length es ≡ width * length es + width = omega arith in x) ∙ sym (mul-suc width (length es))

module _ (p : Program) (s : Mapped) (a begins : ℕ) (begins_there : a % begins ≡ 0) (there : s.row.address ≡ a + s.located.offset) (other : s.located.home.executable ≡ false) where
  abbrev v : Expression → Value
  v e = form p s.located e

  none : (says : StatementKind) → s.located.kind ≡ says → parts_by_size (constants p s.located) s.located.options.rvc s.row.bytes says ≡ Some []
      → IsRowOf (if has_values p s then option_map (filled (field_value p s) s.row.address) (parts_by_size (constants p s.located) s.located.options.rvc s.row.bytes s.located.kind) else None) s.row
      → s.row.bytes ≡ 0
  none says is no_parts fits =
      no_instructions (has_values p s) (field_value p s) s.row.address (parts_by_size (constants p s.located) s.located.options.rvc s.row.bytes s.located.kind) s.row
      (ap (parts_by_size (constants p s.located) s.located.options.rvc s.row.bytes) is ∙ no_parts) fits

  -- data spells as many bytes as it has
  spelled_long : (contents : Data) → HasCount v contents → length (spelled_data (number p s) contents) ≡ data_size v contents
  spelled_long (Values width values) sound = length_numbers width (number p s) values
  spelled_long (Strings ended strings) sound = refl
  spelled_long (Zeros count) sound =
      length-replicate {A = ℕ} (number p s count) 0
      ∙ ap (λ x. unwrap_or (resolved (λ q. address p s.located q) x) 0) sound.1
      ∙ sym (ap or_none sound.2)

  contributed_bytes : (d : Directive) (c : Contribution) → s.located.kind ≡ Directs d → contribution d ≡ c → ContributionFits p s d c → IsSound v begins c → s.row.bytes ≡ own_bytes v s.located.offset c
  contributed_bytes d Nothing is e fits sound = absurd fits
  contributed_bytes d (Bytes contents) is e fits sound =
      fits.1 ∙ ap (λ k. length (spelled_said (number p s) k s.row.bytes)) is ∙ ap (λ c. length (spelled_contribution (number p s) c s.row.bytes)) e
      ∙ spelled_long contents sound
  contributed_bytes d (Alignment counts number) is e fits sound =
      let padded : IsPaddingIn false p s d = subst (λ b. IsPaddingIn b p s d) other fits in
      padded.1 ∙ ap (λ c. padding (contribution_alignment v c) s.row.address) e
      ∙ ap (padding (alignment_as counts (v number))) there
      ∙ same_padding (alignment_as counts (v number)) a begins s.located.offset sound begins_there

  directive_bytes : (d : Directive) → s.located.kind ≡ Directs d → DirectiveFits p s d → IsSound v begins (contribution d) → s.row.bytes ≡ own_bytes v s.located.offset (contribution d)
  directive_bytes (Sets name e) is fits sound = none (Directs (Sets name e)) is refl fits
  directive_bytes d is fits sound = contributed_bytes d (contribution d) is refl fits sound

  bytes_by : (says : StatementKind) → s.located.kind ≡ says → StatementFits p s says → IsHeld s.located.home says → IsSound v begins (contribution_in says) → s.row.bytes ≡ own_bytes v s.located.offset (contribution_in says)
  bytes_by (Label name) is fits held sound = none (Label name) is refl fits
  bytes_by (Numbered number) is fits held sound = none (Numbered number) is refl fits
  bytes_by (Instruction mnemonic operands) is fits held sound = absurd (both_ways s.located.home.executable other held.0)
  bytes_by (Directs d) is fits held sound = directive_bytes d is fits sound

  pub row_bytes : SizeFits p s → IsHeld s.located.home s.located.kind → IsSound v begins (contribution_in s.located.kind) → s.row.bytes ≡ own_bytes v s.located.offset (contribution_in s.located.kind)
  row_bytes fits held sound = bytes_by s.located.kind refl fits held sound

-- ---- one row after another

abbrev pub Stands : (Located → Bool) → ℕ → MaybeMapped → Type 0
Stands test a e = test e.located ≡ true → IfSome e.row (λ r. r.address ≡ a + e.located.offset)

-- a row has the bytes of its statement, which has none without a row
pub record IsFilled (bytes : Located → ℕ) (a : ℕ) (e : MaybeMapped) : Type 0 where
  pub none : e.row ≡ None → bytes e.located ≡ 0
  pub some : (r : Row) → e.row ≡ Some r → r.address ≡ a + e.located.offset → r.bytes ≡ bytes e.located

abbrev pub located_in : MaybeMapped → Located
located_in e = e.located

module _ (test : Located → Bool) (bytes : Located → ℕ) (a : ℕ) where
  abbrev rows_in : List Mapped → List Row
  rows_in ss = map (λ s. s.row) (filter (λ s. test s.located) ss)

  pub follow_stands : (es : List MaybeMapped) (n : ℕ) → Runs test bytes n (map located_in es) → AllByRecursion (λ e. test e.located ≡ true → IsFilled bytes a e) es
      → Follow (a + n) (rows_in (mapped_of es)) → AllByRecursion (Stands test a) es
  follow_stands [] n runs filled_all follow = tt
  follow_stands (e ∷ es) n runs filled_all follow = go e.row refl follow (follow_stands es (n + (if test e.located then bytes e.located else 0)) runs.1 filled_all.1)
    where
      on : (b : Bool) (m : ℕ) → test e.located ≡ b → m ≡ a + (n + (if b then bytes e.located else 0)) → Follow m (rows_in (mapped_of es)) → Follow (a + (n + (if test e.located then bytes e.located else 0))) (rows_in (mapped_of es))
      on b m is same f = subst (λ x. Follow x (rows_in (mapped_of es))) (same ∙ ap (λ c. a + (n + (if c then bytes e.located else 0))) (sym is)) f

      without : (b : Bool) → e.row ≡ None → test e.located ≡ b → Follow (a + n) (rows_in (mapped_of es)) → Follow (a + (n + (if test e.located then bytes e.located else 0))) (rows_in (mapped_of es))
      without true none is f =
          let zero_is = (filled_all.0 is).none none in
          on true (a + n) is (let x : a + n ≡ a + (n + bytes e.located) = omega (arith, zero_is) in x) f
      without false none is f = on false (a + n) is (let x : a + n ≡ a + (n + 0) = omega arith in x) f

      with_row : (b : Bool) (r : Row) → e.row ≡ Some r → test e.located ≡ b → Follow (a + n) (map (λ s. s.row) (if b then record { located = e.located; row = r } ∷ filter (λ s. test s.located) (mapped_of es) else filter (λ s. test s.located) (mapped_of es)))
          → (Follow (a + (n + (if test e.located then bytes e.located else 0))) (rows_in (mapped_of es)) → AllByRecursion (Stands test a) es) → (test e.located ≡ true → IfSome (Some r) (λ r. r.address ≡ a + e.located.offset)) × AllByRecursion (Stands test a) es
      with_row true r some is (at, f) later =
          let here : r.address ≡ a + e.located.offset = at ∙ ap (λ x. a + x) (sym (runs.0 is)) in
          let size = (filled_all.0 is).some r some here in
          (λ passes. here, later (on true (a + n + r.bytes) is (let x : a + n + r.bytes ≡ a + (n + bytes e.located) = omega (arith, size) in x) f))
      with_row false r some is f later =
          (λ passes. absurd (cc), later (on false (a + n) is (let x : a + n ≡ a + (n + 0) = omega arith in x) f))

      go : (o : Option Row) → e.row ≡ o → Follow (a + n) (rows_in (seated e.located o ++ mapped_of es)) → (Follow (a + (n + (if test e.located then bytes e.located else 0))) (rows_in (mapped_of es)) → AllByRecursion (Stands test a) es) → (test e.located ≡ true → IfSome o (λ r. r.address ≡ a + e.located.offset)) × AllByRecursion (Stands test a) es
      go None none f later = (λ passes. tt, later (without (test e.located) none refl f))
      go (Some r) some f later = with_row (test e.located) r some refl f later
