-- The branches of a raw listing have four bytes, and so have the jumps that keep no return address.

use Rattle.std.proofs.Common.{inr, ◌≡◌, ℕ, zero, suc, ◌+◌, ◌<◌, ◌≤◌, ℤ, pos, Bool, true, false, List, [], ◌∷◌, length, Some, None, refl, sym, ◌∙◌, ap, subst, arith}
use Rattle.std.specs.Prelude.{⊤, ◌==◌, if◌then◌else◌, slice_index}
use Rattle.std.specs.Int.{w64, int_wrap}
use Rattle.std.specs.List.{AllByRecursion, find}
use Rattle.std.proofs.lemmas.Bool.{eq-eqb, ne_eqb}
use Rattle.rv_isa.specs.declared.instruction.Format.{Format}
use Rattle.rv_isa.specs.declared.instruction.Format.TheVariants.{Branch, Jal, Fence}
use Rattle.rv_isa.specs.Operations.{format_of}
use Rattle.rv_isa.specs.Ranges.{IsValidFormat}
use Rattle.rv_isa_laws.specs.Arithmetic.{wrapped}
use Rattle.rv_size_laws.specs.declared.item.Forms.TheVariants.{Settled, Branch as FullBranch}
use Rattle.rv_size_laws.specs.declared.item.Item.{Item}
use Rattle.rv_size_laws.specs.Branches.{smallest, item_at, IsLeastGood}
use Rattle.rv_expression_laws.specs.Expression.{Here}
use Rattle.rv_expression_laws.specs.Values.{Value, Open, Symbolic}
use Rattle.rv_map_laws.specs.declared.map.Row.{Row}
use Rattle.rv_statement_laws.specs.declared.mnemonic.Mnemonic.TheVariants as words
use Rattle.rv_statement_laws.specs.Statement.{StatementKind, Instruction, Operand, Register, Target, Accesses}
use Rattle.rv_unit_laws.specs.Bindings.{Bindings}
use Rattle.rv_unit_laws.specs.Options.{first_options}
use Rattle.rv_unit_laws.specs.Sections.{text_section}
use Rattle.rv_unit_laws.specs.Tables.{Labelled, meaning, value_by_tables}
use Rattle.rv_unit_laws.proofs.OffsetsLemmas.{immediate}
use Rattle.rv_listing_laws.specs.Instruction.{is_tso}
use Rattle.rv_listing_laws.specs.declared.code.Code.TheVariants.{Word, Parcel}
use Rattle.rv_source_laws.specs.Located.{Located}
use Rattle.rv_source_laws.specs.Program.{Program, form}
use Rattle.rv_source_laws.specs.Sizes.{near_value, branch_item, item_by, item_by_kind, items_of}
use Rattle.rv_source_laws.specs.Sized.{HaveSizes, statement_size}
use Rattle.rv_raw_theorems.specs.Statements.{from_dot, access_set, word_statement, IsSmall}
use Rattle.rv_raw_theorems.proofs.PrintedValuesLemmas.{distance_value, addend_is}
use Rattle.rv_raw_theorems.specs.Meaning.{LeadsFromItself}
use Rattle.rv_raw_theorems.proofs.SizesLemmas.{sizes_are}
use Rattle.rv_raw_theorems.proofs.WrittenCodesLemmas.{IsFull, branch_small}
use Rattle.rv_raw_theorems.proofs.StatementPlacesLemmas.{no_rvc, no_relax, global_start, raw_tables, place, places, head, whole, heads, seats}
use Rattle.rv_raw_theorems.proofs.StatementsLemmas.{raw_options}
use Rattle.rv_raw_theorems.proofs.StepsLemmas.{Step, A_code, The_entry, kind_of, kinds_of, IsSpoken, IsFullStep}

-- ---- items

module _ (bs : Bindings) (ls : List Labelled) (all : List Located) where
  -- a statement is found by its ordinal
  abbrev pub Stands : Located → Type 0
  Stands s = find (λ (x : Located). x.ordinal == s.ordinal) all ≡ Some s

  -- what `.` and a distance are at an ordinal
  abbrev value_in : ℤ → ℕ → Value
  value_in z n = value_by_tables (raw_tables bs ls) true n (record { section = 0; offset = 0 }) (from_dot z)

  -- a target leads back to the statement itself
  near_is : (n line : ℕ) (k : StatementKind) (z : ℤ) → IsSmall z → Stands (place text_section n line k)
      → near_value (raw_tables bs ls) all (place text_section n line k) (value_in z n) ≡ Some (record { ordinal = n; addend = z })
  near_is n line k z small stands =
      let s = place text_section n line k in
      let says : value_in z n ≡ Symbolic Here Open (wrapped z) = distance_value (λ q. meaning (raw_tables bs ls) true n (record { section = 0; offset = 0 }) q) 0 0 z small (inr refl) in
      ap (near_value (raw_tables bs ls) all s) says
      ∙ ap (λ o. elim o [
        | None ↦ None
        | Some x ↦ if x.section == 0 then Some (record { ordinal = n; addend = int_wrap w64 (pos (wrapped z)) }) else None
      ]) stands
      ∙ ap (λ y. Some (record { ordinal = n; addend = y })) (addend_is z small)

  abbrev item_of : ℕ → ℕ → ℕ → StatementKind → Item
  item_of n line bytes k = item_by_kind (raw_tables bs ls) all (place text_section n line k) bytes k

  jump_fine : (b : Bool) (j : ℕ) (s : Located) (bytes : ℕ) (os : List Operand) → LeadsFromItself j (item_by (raw_tables bs ls) all s bytes os (if b then Some (Settled 4) else None))
  jump_fine true j s bytes os = tt
  jump_fine false j s bytes os = tt

  fence_fine : (b : Bool) (j n line bytes before after : ℕ) → LeadsFromItself j (item_of n line bytes (if b then Instruction words.FenceTso [] else Instruction words.Fence (Accesses (access_set before) ∷ Accesses (access_set after) ∷ [])))
  fence_fine true j n line bytes before after = tt
  fence_fine false j n line bytes before after = tt

  word_fine : (f : Format) → IsValidFormat f → (j line bytes : ℕ) → Stands (place text_section (suc j) line (word_statement f)) → LeadsFromItself j (item_of (suc j) line bytes (word_statement f))
  word_fine (Branch op x) valid j line bytes stands =
      let near = near_is (suc j) line (word_statement (Branch op x)) x.offset (branch_small x.offset valid.2) stands in
      subst (λ o. LeadsFromItself j (branch_item (place text_section (suc j) line (word_statement (Branch op x))) FullBranch o)) (sym near)
      (omega arith, immediate x.offset valid.2)
  word_fine (Jal x) valid j line bytes stands =
      jump_fine (x.rd == 0) j (place text_section (suc j) line (word_statement (Jal x))) bytes (Register x.rd ∷ Target (from_dot x.offset) ∷ [])
  word_fine (Fence x) valid j line bytes stands = fence_fine (is_tso x) j (suc j) line bytes x.pred x.succ
  word_fine _ valid j line bytes stands = tt

  step_fine : (step : Step) → IsSpoken step → (j line bytes : ℕ) → Stands (place text_section (suc j) line (kind_of step)) → LeadsFromItself j (item_of (suc j) line bytes (kind_of step))
  step_fine (A_code (Word i)) spoken j line bytes stands = word_fine (format_of i) spoken.0 j line bytes stands
  step_fine (A_code (Parcel c)) spoken j line bytes stands = tt
  step_fine The_entry spoken j line bytes stands = tt

  abbrev items_from : ℕ → ℕ → List Step → List ℕ → List Item
  items_from n line steps sizes = items_of (raw_tables bs ls) all (places text_section n line (kinds_of steps)) sizes

  fine_from : (steps : List Step) (j line : ℕ) (sizes : List ℕ) → AllByRecursion IsSpoken steps → AllByRecursion Stands (places text_section (suc j) line (kinds_of steps)) → (i : ℕ)
      → LeadsFromItself (j + i) (item_at (items_from (suc j) line steps sizes) i)
  fine_from [] j line sizes spoken stand i = tt
  fine_from (s ∷ ss) j line [] spoken stand i = tt
  fine_from (s ∷ ss) j line (b ∷ sizes) spoken stand zero =
      let same : j ≡ j + 0 = omega arith in
      subst (λ x. LeadsFromItself x (item_of (suc j) line b (kind_of s))) same (step_fine s spoken.0 j line b stand.0)
  fine_from (s ∷ ss) j line (b ∷ sizes) spoken stand (suc i) =
      let same : suc j + i ≡ j + suc i = omega arith in
      subst (λ x. LeadsFromItself x (item_at (items_from (suc (suc j)) (line + 1) ss sizes) i)) same (fine_from ss (suc j) (line + 1) sizes spoken.1 stand.1 i)

  -- ---- bytes of rows

  abbrev pub AreFull : List Step → List Row → Type 0
  AreFull [] rows = ⊤
  AreFull (s ∷ ss) [] = ⊤
  AreFull (s ∷ ss) (r ∷ rs) = IsFullStep s r.bytes × AreFull ss rs

  word_full : (f : Format) → IsValidFormat f → (n line bytes : ℕ) (r : Row) → Stands (place text_section n line (word_statement f))
      → (v : _) → bytes ≡ statement_size true v (word_statement f) r.bytes → bytes ≡ smallest (item_of n line bytes (word_statement f)).forms → IsFull f r.bytes
  word_full (Branch op x) valid n line bytes r stands v has least =
      let near = near_is n line (word_statement (Branch op x)) x.offset (branch_small x.offset valid.2) stands in
      sym has ∙ least ∙ ap (λ o. smallest (branch_item (place text_section n line (word_statement (Branch op x))) FullBranch o).forms) near
  word_full (Jal x) valid n line bytes r stands v has least =
      λ none. sym has ∙ least
      ∙ ap (λ b. smallest (item_by (raw_tables bs ls) all (place text_section n line (word_statement (Jal x))) bytes (Register x.rd ∷ Target (from_dot x.offset) ∷ []) (if b then Some (Settled 4) else None)).forms) (eq-eqb x.rd 0 none)
  word_full _ valid n line bytes r stands v has least = tt

  step_full : (step : Step) → IsSpoken step → (n line bytes : ℕ) (r : Row) → Stands (place text_section n line (kind_of step))
      → (v : _) → bytes ≡ statement_size true v (kind_of step) r.bytes → bytes ≡ smallest (item_of n line bytes (kind_of step)).forms → IsFullStep step r.bytes
  step_full (A_code (Word i)) spoken n line bytes r stands v has least = word_full (format_of i) spoken.0 n line bytes r stands v has least
  step_full (A_code (Parcel c)) spoken n line bytes r stands v has least = tt
  step_full The_entry spoken n line bytes r stands v has least = tt

  full_from : (p : Program) (steps : List Step) (n line : ℕ) (rows : List Row) (sizes : List ℕ) → length rows ≡ length (kinds_of steps) → AllByRecursion IsSpoken steps
      → AllByRecursion Stands (places text_section n line (kinds_of steps)) → HaveSizes p (seats n line (kinds_of steps) rows) sizes
      → ((i : ℕ) → slice_index sizes i ≡ smallest (item_at (items_from n line steps sizes) i).forms) → AreFull steps rows
  full_from p [] n line rows sizes count spoken stand has least = tt
  full_from p (s ∷ ss) n line [] sizes count spoken stand has least = tt
  full_from p (s ∷ ss) n line (r ∷ rs) [] count spoken stand has least = absurd has
  full_from p (s ∷ ss) n line (r ∷ rs) (b ∷ sizes) count spoken stand has least = (
    step_full s spoken.0 n line b r stand.0 (λ e. form p (place text_section n line (kind_of s)) e) has.0 (least 0),
    full_from p ss (suc n) (line + 1) rs sizes (omega (arith, count)) spoken.1 stand.1 has.1 (λ i. least (suc i)),
  )

-- ---- the whole source

-- from an ordinal on, and found by it
abbrev IsThere : ℕ → List Located → Located → Type 0
IsThere low all s = (low ≤ s.ordinal) × (find (λ (x : Located). x.ordinal == s.ordinal) all ≡ Some s)

all_on : (P Q : Located → Type 0) (xs : List Located) → ((x : Located) → P x → Q x) → AllByRecursion P xs → AllByRecursion Q xs
all_on P Q [] f h = tt
all_on P Q (x ∷ xs) f (p, ps) = (f x p, all_on P Q xs f ps)

passes_over : (e : Located) (es : List Located) (n : ℕ) → e.ordinal < n → find (λ (x : Located). x.ordinal == n) (e ∷ es) ≡ find (λ (x : Located). x.ordinal == n) es
passes_over e es n less = subst (λ b. (if b then Some e else find (λ (x : Located). x.ordinal == n) es) ≡ find (λ (x : Located). x.ordinal == n) es) (sym (ne_eqb e.ordinal n (λ same. omega (arith, same, less)))) refl

finds : (e : Located) (es : List Located) → find (λ (x : Located). x.ordinal == e.ordinal) (e ∷ es) ≡ Some e
finds e es = subst (λ b. (if b then Some e else find (λ (x : Located). x.ordinal == e.ordinal) es) ≡ Some e) (sym (eq-eqb e.ordinal e.ordinal refl)) refl

behind : (e : Located) (es : List Located) (low : ℕ) (xs : List Located) → e.ordinal < low → AllByRecursion (IsThere low es) xs → AllByRecursion (IsThere low (e ∷ es)) xs
behind e es low xs less h =
    all_on (IsThere low es) (IsThere low (e ∷ es)) xs (λ s there. (there.0, passes_over e es s.ordinal (let from = there.0 in omega (arith, less, from)) ∙ there.1)) h

lower : (es : List Located) (low : ℕ) (xs : List Located) → AllByRecursion (IsThere (suc low) es) xs → AllByRecursion (IsThere low es) xs
lower es low xs h = all_on (IsThere (suc low) es) (IsThere low es) xs (λ s there. (let from = there.0 in omega (arith, from), there.1)) h

there_from : (n line : ℕ) (ks : List StatementKind) → AllByRecursion (IsThere n (places text_section n line ks)) (places text_section n line ks)
there_from n line [] = tt
there_from n line (k ∷ ks) =
    let e = place text_section n line k in
    let es = places text_section (suc n) (line + 1) ks in
    ((omega arith, finds e es), lower (e ∷ es) n es (behind e es (suc n) es (omega arith) (there_from (suc n) (line + 1) ks)))

stand_all : (bs : Bindings) (ls : List Labelled) (ks : List StatementKind) → AllByRecursion (Stands bs ls (whole text_section ks)) (places text_section 4 4 ks)
stand_all bs ls ks =
    let es = places text_section 4 4 ks in
    let three = head text_section 3 raw_options global_start in
    let two = head text_section 2 (record { rvc = false; relax = true }) no_relax in
    let one = head text_section 1 first_options no_rvc in
    all_on (IsThere 4 (whole text_section ks)) (Stands bs ls (whole text_section ks)) es (λ s there. there.1)
    (behind one (two ∷ three ∷ es) 4 es (omega arith) (behind two (three ∷ es) 4 es (omega arith) (behind three es 4 es (omega arith) (there_from 4 4 ks))))

abbrev all_of : List Step → List Located
all_of steps = whole text_section (kinds_of steps)

abbrev all_items : Bindings → List Labelled → List Step → List ℕ → List Item
all_items bs ls steps sizes = items_of (raw_tables bs ls) (all_of steps) (all_of steps) sizes

all_fine : (bs : Bindings) (ls : List Labelled) (steps : List Step) (a b c : ℕ) (sizes : List ℕ) → AllByRecursion IsSpoken steps → (i : ℕ) → LeadsFromItself i (item_at (all_items bs ls steps (a ∷ b ∷ c ∷ sizes)) i)
all_fine bs ls steps a b c sizes spoken zero = tt
all_fine bs ls steps a b c sizes spoken (suc zero) = tt
all_fine bs ls steps a b c sizes spoken (suc (suc zero)) = tt
all_fine bs ls steps a b c sizes spoken (suc (suc (suc i))) =
    let same : 3 + i ≡ suc (suc (suc i)) = omega arith in
    subst (λ x. LeadsFromItself x (item_at (items_from bs ls (all_of steps) 4 4 steps sizes) i)) same
    (fine_from bs ls (all_of steps) steps 3 4 sizes spoken (stand_all bs ls (kinds_of steps)) i)

pub all_full : (bs : Bindings) (ls : List Labelled) (p : Program) (steps : List Step) (rows : List Row) (sizes : List ℕ) → length rows ≡ length (kinds_of steps) → AllByRecursion IsSpoken steps
    → HaveSizes p (heads (seats 4 4 (kinds_of steps) rows)) sizes → IsLeastGood (all_items bs ls steps sizes) sizes → AreFull bs ls (all_of steps) steps rows
all_full bs ls p steps rows [] count spoken has least = absurd has
all_full bs ls p steps rows (a ∷ []) count spoken has least = absurd has.1
all_full bs ls p steps rows (a ∷ b ∷ []) count spoken has least = absurd has.1.1
all_full bs ls p steps rows (a ∷ b ∷ c ∷ sizes) count spoken has least =
    full_from bs ls (all_of steps) p steps 4 4 rows sizes count spoken (stand_all bs ls (kinds_of steps)) has.1.1.1
    (λ i. sizes_are (all_items bs ls steps (a ∷ b ∷ c ∷ sizes)) (a ∷ b ∷ c ∷ sizes) (all_fine bs ls steps a b c sizes spoken) least (suc (suc (suc i))))
