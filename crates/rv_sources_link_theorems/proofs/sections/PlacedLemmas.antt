-- A section of an object in the program: its bytes, its rows and the sizes of its statements.

use Rattle.std.proofs.Common.{◌≡◌, ℕ, ◌%◌, ◌<◌, true, false, List, [], ◌∷◌, refl, sym, ap, ◌∙◌, subst, map, Option, Some, None}
use Rattle.std.proofs.lemmas.Bool.{and_parts}
use Rattle.std.specs.Prelude.{ℤ, ◌==◌, flat_map, is_some, option_and_then}
use Rattle.std.specs.List.{AllByRecursion, slice_get}
use Rattle.rv_list_laws.proofs.FilterLemmas.{each_filter}
use Rattle.rv_list_laws.proofs.EachLemmas.{each_append, each_flat_map}
use Rattle.rv_expression_laws.specs.Expression.{Primary}
use Rattle.rv_statement_laws.specs.Statement.{StatementKind, Label, Numbered, Instruction, Directs, Expression, Values, Emits}
use Rattle.rv_unit_laws.specs.Sections.{Section as SourceSection}
use Rattle.rv_unit_laws.specs.Tables.{Tables}
use Rattle.rv_map_laws.specs.Limits.{IsGlobal}
use Rattle.rv_source_laws.specs.Located.{has_row}
use Rattle.rv_source_laws.specs.Program.{Mapped, Program, tables_in, address_at, has_values_by, has_values}
use Rattle.rv_source_laws.specs.Fits.{SizeFits}
use Rattle.rv_source_laws.specs.Start.{spelled}
use Rattle.rv_source_laws.proofs.HeldLemmas.{IsHeld}
use Rattle.rv_chain_laws.specs.Contents.{IsWritten}
use Rattle.rv_object_laws.specs.Object.{Section, Object}
use Rattle.rv_link_laws.specs.Moves.{alignments_of, moves, plan, kept}
use Rattle.rv_link_laws.specs.Inputs.{Starts, InputSection}
use Rattle.rv_link_laws.specs.Values.{initial_bytes, applied, linked_bytes, IsRelocated}
use Rattle.rv_sources_link_theorems.proofs.statements.MarkedLemmas.{part_fields}
use Rattle.rv_assemble_laws.specs.Templates.{Template, Open, IsTemplate, template_fields}
use Rattle.rv_assemble_laws.specs.LaidStatements.{LaidStatement, LaidPart, expression_value, laid_part, part_bytes, laid_in, IsMultiple}
use Rattle.rv_assemble_laws.specs.Symbols.{laid_at}
use Rattle.rv_assemble_laws.specs.IsObjectOf.{Numbering, relocations_from}
use Rattle.rv_sources_link_theorems.proofs.fields.PatchesLemmas.{written, written_from, HasRoom, all_made, makes}
use Rattle.rv_sources_link_theorems.proofs.statements.StatementsLemmas.{row_in, mapped_at, row_address}
use Rattle.rv_sources_link_theorems.proofs.names.KnownLemmas.{outer_in}
use Rattle.rv_sources_link_theorems.proofs.statements.SettledLemmas.{IsSettled, IsLaidIn, laid_are_in}
use Rattle.rv_sources_link_theorems.proofs.statements.FieldedLemmas.{roomy}
use Rattle.rv_sources_link_theorems.proofs.fields.WholesLemmas.{IsWhole}
use Rattle.rv_sources_link_theorems.proofs.statements.OperandsLemmas.{worth_at}
use Rattle.rv_sources_link_theorems.proofs.fields.FieldsLemmas.{new, same, worth, s, worths, relocations_are, K, Known, known, Facts, facts}
use Rattle.rv_sources_link_theorems.proofs.fields.UppersLemmas.{IsOwn, owns}
use Rattle.rv_sources_link_theorems.proofs.fields.FilledCodeLemmas.{filled_code}
use Rattle.rv_sources_link_theorems.proofs.sections.SectionsLemmas.{HasAddressIn, HasAddress, all_valued, meant_in, said, suits_by, spelled_by, coded_by}
use Rattle.rv_sources_link_theorems.proofs.statements.SuitsLemmas as suits
use Rattle.rv_sources_link_theorems.proofs.statements.CodeOfLemmas.{IsCodeOf}
use Rattle.rv_sources_link_theorems.proofs.statements.FittingLemmas.{IsFilled, IsFilledCode, fits, is_written}
use Rattle.rv_sources_link_theorems.proofs.moves.ShrunkLemmas.{parts_of, parts, shrunk_templates, HasShrunkSize, IsSectionOf, AreSectionsOf}

-- what the row of a statement owes to it, and its bytes, where a function gives the code of each
pub record IsFit (p : Program) (starts : Starts) (bytes : Mapped → List ℕ) (worths : ℕ → ℕ → ℕ → Open → ℤ) (file : ℕ) (z : LaidStatement) : Type 0 where
  pub sized : SizeFits p (mapped_at starts file z)
  pub coded : z.located.home.executable ≡ true → IsWritten p (mapped_at starts file z) (bytes (mapped_at starts file z))
  pub code : z.located.home.executable ≡ true → bytes (mapped_at starts file z) ≡ said p file (worths file) z
  pub figures : z.located.home.executable ≡ false → spelled p (mapped_at starts file z) ≡ said p file (worths file) z

module _ (p : Program) (os : List Object) (starts : Starts) (file : ℕ) (laid : List LaidStatement) (number : Numbering) (o : Object) (sections : List SourceSection)
    (low : AllByRecursion IsGlobal p.map.globals) (are : AreSectionsOf (tables_in p file) laid number o.symbols 0 sections o.sections)
    (settled : AllByRecursion (IsSettled sections) laid) (bytes : Mapped → List ℕ) (all_worths : ℕ → ℕ → ℕ → Open → ℤ)
    (whole : IsWhole p os starts file laid number o (all_worths file)) (codes : AllByRecursion (IsCodeOf starts (λ n z. said p n (all_worths n) z) bytes file) laid)
    (plain : (j : ℕ) (x : Section) → slice_get o.sections j ≡ Some x → alignments_of x ≡ [])
    (address : (n : ℕ) → address_at p.statements file n ≡ option_and_then (row_address starts file) (laid_at laid n)) where
  abbrev t : Tables
  t = tables_in p file

  module _ (index : ℕ) (section : SourceSection) (x : Section) (is : IsSectionOf t laid number o.symbols index section (laid_in index laid) x)
      (at : slice_get sections index ≡ Some section) (there : slice_get o.sections index ≡ Some x) (none : alignments_of x ≡ []) (loaded : section.loaded ≡ true)
      (relocated : AllByRecursion (IsRelocated (outer_in p os) starts os (record { file = file; object = o; index = index; section = x })) x.relocations) where
    abbrev own : List LaidStatement
    own = laid_in index laid

    abbrev ps : List LaidPart
    ps = parts t own

    abbrev Fact : LaidStatement → Type 0
    Fact z = Facts p os starts file laid number o sections low are settled (all_worths file) whole plain address index section x is at none loaded relocated z

    abbrev KnownPart : LaidPart → Type 0
    KnownPart q = Known p os starts file laid number o sections low are settled (all_worths file) whole plain address index section x is at none loaded relocated q

    -- each_flat_map field of code lies in its part
    roomy_of : (z : LaidStatement) → IsLaidIn index section z → (z.located.placed ≡ true → HasShrunkSize (expression_value t z.located) z x.alignment z.located.kind)
        → AllByRecursion (λ q. HasRoom q.template) (parts_of t z)
    roomy_of z here sized = of_ordinal z.located.ordinal (shrunk_templates t z z.located.kind) (roomy t z x.alignment here.bare sized)
      where
        of_ordinal : (ordinal : ℕ) (ts : List Template) → AllByRecursion HasRoom ts → AllByRecursion (λ q. HasRoom q.template) (map (laid_part ordinal) ts)
        of_ordinal ordinal [] h = tt
        of_ordinal ordinal (q ∷ ts) (h, hs) = (h, of_ordinal ordinal ts hs)

    all_roomy : (zs : List LaidStatement) → AllByRecursion (IsLaidIn index section) zs → AllByRecursion (λ z. z.located.placed ≡ true → HasShrunkSize (expression_value t z.located) z x.alignment z.located.kind) zs
        → AllByRecursion (λ q. HasRoom q.template) (parts t zs)
    all_roomy [] h sz = tt
    all_roomy (z ∷ zs) (h, hs) (sz, szs) = each_append (λ q. HasRoom q.template) (parts_of t z) (parts t zs) (roomy_of z h sz) (all_roomy zs hs szs)

    abbrev own_worth : ℕ → Open → ℤ
    own_worth = worth_at (outer_in p os) starts os file o index x none number

    worth_same : own_worth ≡ all_worths file index
    worth_same = sym (λ i offset f. whole.worth index x there offset f i)

    -- the bytes of the section
    pub bytes_linked : initial_bytes x.contents ≡ flat_map part_bytes ps
        → linked_bytes (outer_in p os) starts os (record { file = file; object = o; index = index; section = x }) ≡ written_from (written (meant_in p file) (all_worths file index)) 0 ps
    bytes_linked holds =
        let i : InputSection = record { file = file; object = o; index = index; section = x } in
        let kept_all : kept 0 (moves (starts file index) x) (initial_bytes x.contents) ≡ initial_bytes x.contents = ap (λ rs. kept 0 (plan (starts file index) 0 rs) (initial_bytes x.contents)) none in
        ap (λ rs. applied (new p os starts file laid number o sections low are settled (all_worths file) whole plain address index section x is at none loaded relocated) (worth p os starts file laid number o sections low are settled (all_worths file) whole plain address index section x is at none loaded relocated) rs (kept 0 (moves (starts file index) x) (initial_bytes x.contents))) (relocations_are p os starts file laid number o sections low are settled (all_worths file) whole plain address index section x is at none loaded relocated)
        ∙ ap (λ b. applied (new p os starts file laid number o sections low are settled (all_worths file) whole plain address index section x is at none loaded relocated) (worth p os starts file laid number o sections low are settled (all_worths file) whole plain address index section x is at none loaded relocated) (relocations_from number 0 ps) b) (kept_all ∙ holds)
        ∙ all_made (new p os starts file laid number o sections low are settled (all_worths file) whole plain address index section x is at none loaded relocated) (same p os starts file laid number o sections low are settled (all_worths file) whole plain address index section x is at none loaded relocated) (worth p os starts file laid number o sections low are settled (all_worths file) whole plain address index section x is at none loaded relocated) number (written (meant_in p file) own_worth) [] 0 ps refl
        (makes (new p os starts file laid number o sections low are settled (all_worths file) whole plain address index section x is at none loaded relocated) (same p os starts file laid number o sections low are settled (all_worths file) whole plain address index section x is at none loaded relocated) (worth p os starts file laid number o sections low are settled (all_worths file) whole plain address index section x is at none loaded relocated) number (s p os starts file laid number o sections low are settled (all_worths file) whole plain address index section x is at none loaded relocated) (worths p os starts file laid number o sections low are settled (all_worths file) whole plain address index section x is at none loaded relocated) (meant_in p file) ps is.fields roomy_all (known p os starts file laid number o sections low are settled (all_worths file) whole plain address index section x is at none loaded relocated))
        ∙ ap (λ w. written_from (written (meant_in p file) w) 0 ps) worth_same
      where
        roomy_all : AllByRecursion (λ q. HasRoom q.template) ps
        roomy_all = all_roomy own (laid_are_in sections index section laid at settled) (is.sizes loaded)

    -- ---- a statement

    has_field : (ordinal : ℕ) (q : Option Primary) → K p os starts file laid number o sections low are settled (all_worths file) whole plain address index section x is at none loaded relocated ordinal q → HasAddressIn (meant_in p file ordinal) q
    has_field ordinal None h = tt
    has_field ordinal (Some q) h = ap is_some h.is

    has_fields : (fs : List Open) → AllByRecursion (λ (f : Open). K p os starts file laid number o sections low are settled (all_worths file) whole plain address index section x is at none loaded relocated f.ordinal f.symbol) fs → AllByRecursion (HasAddress (meant_in p file)) fs
    has_fields [] h = tt
    has_fields (f ∷ fs) (h, hs) = (has_field f.ordinal f.symbol h, has_fields fs hs)

    has_parts : (qs : List LaidPart) → AllByRecursion KnownPart qs → AllByRecursion (λ q. AllByRecursion (HasAddress (meant_in p file)) (template_fields q.ordinal q.template)) qs
    has_parts [] h = tt
    has_parts (q ∷ qs) (h, hs) = (has_fields (template_fields q.ordinal q.template) h, has_parts qs hs)

    abbrev IsFilledAt : LaidStatement → StatementKind → Type 0
    IsFilledAt z kind =
        let l = z.located in
        IsFilled p file l.ordinal l.section l.offset l.line l.options l.home l.placed (row_in starts file z) z.offset (starts file l.section) z.coded
        (all_worths file l.section) (part_fields t (expression_value t l) l) kind

    -- the open fields of a laid statement's code take what its operands stand for
    filled_by : (z : LaidStatement) → Fact z → has_row z.located ≡ true → IsOwn p os starts file laid number o sections low are settled (all_worths file) whole plain address index section x is at none loaded relocated 0 own z → (kind : StatementKind) → z.located.kind ≡ kind → IsFilledAt z kind
    filled_by z h shown upper (Label name) e = tt
    filled_by z h shown upper (Numbered digits) e = tt
    filled_by z h shown upper (Directs d) e = tt
    filled_by z h shown upper (Instruction mnemonic operands) e = λ qs code_is coded_as.
        let c = subst (HasShrunkSize (expression_value t z.located) z x.alignment) e (h.sized (h.inside.instructed mnemonic operands e)) in
        let both : Some c.ps ≡ Some qs = sym c.parts ∙ code_is in
        let same_parts : c.ps ≡ qs = cc in
        subst (IsFilledCode p file z.located.ordinal z.located.section z.located.offset z.located.line z.located.options z.located.home z.located.placed (row_in starts file z) z.offset (starts file z.located.section) z.coded
        (all_worths file z.located.section) (part_fields t (expression_value t z.located) z.located) mnemonic operands) same_parts
        (filled_code p os starts file laid number o sections low are settled (all_worths file) whole plain address index section x is at none loaded relocated there z h shown upper (all_worths file z.located.section)
        (λ n f. ap (λ j. all_worths file j n f) h.inside.stands ∙ whole.worth index x there n f) mnemonic operands e c)

    fit : ((m : ℕ) → 0 < m → x.alignment % m ≡ 0 → starts file index % m ≡ 0) → (z : LaidStatement) → Fact z → IsOwn p os starts file laid number o sections low are settled (all_worths file) whole plain address index section x is at none loaded relocated 0 own z
        → IsCodeOf starts (λ n z. said p n (all_worths n) z) bytes file z
        → AllByRecursion (λ q. IsTemplate q.template) (parts_of t z)
        → has_row z.located ≡ true → IsFit p starts bytes all_worths file z
    fit begins z h upper found template row =
        let l = z.located in
        let m = mapped_at starts file z in
        let placed : l.placed ≡ true = (and_parts l.placed l.home.loaded row).0 in
        let here = h.inside in
        let size = h.sized placed in
        let v = expression_value t l in
        let held : IsHeld l.home l.kind = subst (λ y. IsHeld y l.kind) (sym here.home) here.held in
        let suit = suits_by z file x.alignment (starts file l.section) (row_in starts file z) v (has_values p m) l.kind refl refl refl
        multiple (λ width es k. values width es k) (here.kind placed) size in
        let w = all_worths file l.section in
        let fields = part_fields t v l in
        let fill = filled_by z h row upper l.kind refl in
        record {
          sized = fits p file l.ordinal l.section l.offset l.line l.options l.home l.placed (row_in starts file z) z.offset (starts file l.section) z.coded w fields l.kind suit fill;
          coded = λ e.
              subst (IsWritten p m) (coded_by p file (all_worths file) z x.alignment l.kind held e size ∙ sym found)
              (is_written p file l.ordinal l.section l.offset l.line l.options l.home l.placed (row_in starts file z) z.offset (starts file l.section) z.coded w fields l.kind suit fill held e);
          code = λ e. found;
          figures = λ e. spelled_by p file (all_worths file) starts z x.alignment l.kind held e size;
        }
      where
        multiple : (al : Option ℕ) → IsMultiple al x.alignment → suits.IsMultiple al (starts file z.located.section)
        multiple None divides = tt
        multiple (Some n) (some, divides) = (some, ap (λ j. starts file j % n) h.inside.stands ∙ begins n some divides)

        values : (width : ℕ) (es : List Expression) → z.located.kind ≡ Directs (Emits (Values width es)) → has_values p (mapped_at starts file z) ≡ true
        values width es k =
            let v = expression_value t z.located in
            let ordinal = z.located.ordinal in
            ap (has_values_by p (mapped_at starts file z)) k
            ∙ all_valued (meant_in p file) ordinal width v es
            (subst (λ kind. AllByRecursion (λ q. IsTemplate q.template) (map (laid_part ordinal) (shrunk_templates t z kind))) k template)
            (has_parts (map (laid_part ordinal) (shrunk_templates t z (Directs (Emits (Values width es)))))
            (subst (λ kind. AllByRecursion KnownPart (map (laid_part ordinal) (shrunk_templates t z kind))) k h.knows))

    all_fit : ((m : ℕ) → 0 < m → x.alignment % m ≡ 0 → starts file index % m ≡ 0) → (zs : List LaidStatement)
        → AllByRecursion Fact zs → AllByRecursion (IsOwn p os starts file laid number o sections low are settled (all_worths file) whole plain address index section x is at none loaded relocated 0 own) zs
        → AllByRecursion (IsCodeOf starts (λ n z. said p n (all_worths n) z) bytes file) zs
        → AllByRecursion (λ z. AllByRecursion (λ q. IsTemplate q.template) (parts_of t z)) zs
        → AllByRecursion (λ z. has_row z.located ≡ true → IsFit p starts bytes all_worths file z) zs
    all_fit begins [] h us cs ts = tt
    all_fit begins (z ∷ zs) (h, hs) (u, us) (c, cs) (q, qs) = (fit begins z h u c q, all_fit begins zs hs us cs qs)

    pub section_fits : ((m : ℕ) → 0 < m → x.alignment % m ≡ 0 → starts file index % m ≡ 0)
        → AllByRecursion (λ z. has_row z.located ≡ true → IsFit p starts bytes all_worths file z) own
    section_fits begins =
        all_fit begins own (facts p os starts file laid number o sections low are settled (all_worths file) whole plain address index section x is at none loaded relocated) (owns p os starts file laid number o sections low are settled (all_worths file) whole plain address index section x is at none loaded relocated 0 own is.tile (facts p os starts file laid number o sections low are settled (all_worths file) whole plain address index section x is at none loaded relocated))
        (each_filter (IsCodeOf starts (λ n z. said p n (all_worths n) z) bytes file) (λ s. s.located.section == index) laid codes)
        (each_flat_map (λ q. IsTemplate q.template) (parts_of t) own is.fields)
