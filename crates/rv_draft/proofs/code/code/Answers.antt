use Rattle.std.proofs.Common.{◌≡◌, suc, ◌+◌, ◌<◌, ◌≤◌, [], ◌∷◌, ◌++◌, length, map, take, drop, get_or, sym, ap, subst, ◌∙◌, true, Some, Err, arith}
use Rattle.std.specs.Prelude.{slice_get, slice_index, slice_index_or, IfOk}
use Rattle.std.proofs.lemmas.Result.{err_from_is_err_and}
use Rattle.std.proofs.lemmas.List.{length-map}
use Rattle.std.proofs.lemmas.Option.{slice_get_within}
use Rattle.rv_statement.specs.Statements.{statements_of}
use Rattle.rv_statement.specs.View.{statement_of}
use Rattle.rv_statement_laws.specs.Statement.{Statement}
use Rattle.rv_unit.specs.declared.section_offset.SectionOffset.{SectionOffset}
use Rattle.rv_unit.specs.Unit.{said, IsFilled}
use Rattle.rv_unit.specs.Sections.{extent_section, offset_of, zeros_offset}
use Rattle.rv_unit_laws.specs.Tables.{at_start, tables, value_by_tables as value_of}
use Rattle.rv_source_laws.specs.Located.{Located, located_from}
use Rattle.rv_instruction.specs.Code.{MayHave}
use Rattle.rv_unit_laws.specs.Options.{Options}
use Rattle.rv_unit.proofs.StandingLemmas.{places_count}
use Rattle.rv_draft.specs.Added.{IsAdded, IsAllCode, Adds}
use Rattle.rv_draft.specs.Lengths.{code_length, code_lengths}
use Rattle.rv_draft.specs.Sized.{bytes_of_sizes}
use Rattle.rv_draft.proofs.CodeLengthsLemmas.{length_of_size, lengths_count, length_there, near_same}
use Rattle.rv_draft.proofs.JoinedLemmas.{take_next, take_none, take_past}
use Rattle.rv_draft.proofs.StandingLemmas.{StandsAt, stands_at, located_at, stated_none}
use Rattle.rv_draft.specs.Contents.{IsExtentAt}
use Rattle.rv_draft.proofs.ExtentsLemmas.{place_inside, faults_in, faults_there, code_there}
use Rattle.rv_draft.specs.declared.code.SectionCode.{SectionCode}
use Rattle.rv_draft.proofs.WholeLemmas.{code_more, code_wrong, code_whole, size_here, added_as, told_more}
use Rattle.rv_draft.proofs.code.code.Goals.{In-loop-index, After-read}
use Rattle.rv_draft.proofs.code.code.Goals as goal

-- The statement's index is below their number, and its place is in a section.
module _ (c : In-loop-index) where
  abbrev place : SectionOffset
  place = slice_index_or c.places-places.result.now c.loop-index.index zeros_offset

  inside : c.loop-index.index < length (said c.args.unit.now)
  inside = subst (λ n. c.loop-index.index < n) (c.len-index-end.ensures ∙ ap (λ l. length (statements_of l)) c.statements-statements.ensures) c.loop-index-test.true

  stands : place.section < length c.args.unit.now.tables.extents.items
  stands = place_inside c.args.unit.now c.loop-index.index zeros_offset place c.args.unit.now.filled inside (ap (λ l. get_or l c.loop-index.index zeros_offset) c.places-places.ensures)

-- The statement that is read, where it stands, its section and its options.
module _ (c : After-read) where
  abbrev statement : Statement
  statement = statement_of c.read.result.now

  abbrev home : SectionOffset
  home = slice_index_or c.places-places.result.now c.loop-index.index zeros_offset

  abbrev located : Located
  located = located_at (said c.args.unit.now) c.loop-index.index statement

  standing : StandsAt c.args.unit.now c.loop-index.index statement home
  standing =
      let is : slice_get (said c.args.unit.now) c.loop-index.index ≡ Some statement = subst (λ l. slice_get (statements_of l) c.loop-index.index ≡ Some statement) c.statements-statements.ensures c.read.ensures in
      stands_at c.args.unit.now c.loop-index.index statement zeros_offset home c.args.unit.now.filled is (ap (λ l. get_or l c.loop-index.index zeros_offset) c.places-places.ensures)

  extent : IsExtentAt c.args.unit.now.tables.extents.items home.section c.extent_at-extent.result
  extent = subst (λ l. IsExtentAt l home.section c.extent_at-extent.result) c.sections-extents.ensures c.extent_at-extent.ensures

  compressed_is : c.loop-index.index < length (said c.args.unit.now) → c.rvc-compressed.result ≡ located.options.rvc
  compressed_is inside = c.rvc-compressed.ensures ∙ ap (λ (o : Options). o.rvc) (c.options_at.ensures inside)

  filled_now : IsFilled c.loop-index.scope.unit.now
  filled_now = subst IsFilled (sym c.loop-index.invariant.0) c.args.unit.now.filled

pub loop-index-init : goal.loop-index-init
loop-index-init c = (c.new-scope.ensures.unit, c.new-scope.ensures.start, c.in_ok-coder.ensures.begun _ _, c.in_ok-coder.ensures.count ∙ ap length c.sections.ensures, ap bytes_of_sizes c.in_ok-coder.ensures.none ∙ sym (take_none (code_lengths (tables (said c.args.unit.now)) (located_from 1 1 (at_start (said c.args.unit.now)) (said c.args.unit.now)) c.args.layout.now.sizes.items)))

pub bounds-places-index : goal.bounds-places-index
bounds-places-index c =
    let within = subst (λ n. c.loop-index.index < n) (sym (places_count c.args.unit.now c.args.unit.now.filled)) (inside (goal.at.bounds-places-index c).In-loop-index) in
    subst (λ l. c.loop-index.index < length l) (sym c.places-places.ensures) within

pub read-requires : goal.read-requires
read-requires c = subst (λ n. c.loop-index.index < n) c.len-index-end.ensures c.loop-index-test.true

pub add-requires : goal.add-requires
add-requires c =
    let b = (goal.at.add-requires c).In-loop-index in
    let h = (goal.at.add-requires c).After-read in
    let u = c.args.unit.now in
    let i = c.loop-index.index in
    let sections = u.tables.extents.items in
    let low = slice_get_within (map extent_section sections) (home h).section (located h).home (standing h).home in
    let all = located_from 1 1 (at_start (said u)) (said u) in
    let told = size_here (tables (said u)) all c.args.layout.now.sizes.items i (located h) (drop (i + 1) all) c.requires.sizes (standing h).next in
    record {
      asked =
          subst (λ n. MayHave c.rvc-compressed.result (statement h).kind n) (sym c.size-wanted.ensures)
          (subst (λ b. MayHave b (statement h).kind (slice_index c.args.layout.now.sizes.items i)) (sym (compressed_is h (inside b))) told.offered);
      section = subst (λ n. (home h).section < n) (length-map sections extent_section ∙ sym c.loop-index.invariant.3) low;
    }

pub size-wanted-requires : goal.size-wanted-requires
size-wanted-requires c = subst (λ n. c.loop-index.index < n) (sym c.requires.count) (inside (goal.at.size-wanted-requires c).In-loop-index)

pub extent_at-extent-requires : goal.extent_at-extent-requires
extent_at-extent-requires c =
    let h = (goal.at.extent_at-extent-requires c).In-loop-index in
    subst (λ l. (place h).section < length l) (sym c.sections-extents.ensures) (stands h)

pub loop-index-preserved : goal.loop-index-preserved
loop-index-preserved c =
    let b = (goal.at.loop-index-preserved c).In-loop-index in
    let h = (goal.at.loop-index-preserved c).After-read in
    let u = c.args.unit.now in
    let i = c.loop-index.index in
    let x = statement h in
    let p = home h in
    let at = standing h in
    let st = located h in
    let e = c.extent_at-extent.result in
    let rvc = c.rvc-compressed.result in
    let same = c.loop-index.invariant.0 in
    let faults = faults_in (tables (said u)) (i + 1) (offset_of p) x in
    let known = faults_there u i x p at in
    let t = tables (said u) in
    let all = located_from 1 1 (at_start (said u)) (said u) in
    let sizes = c.args.layout.now.sizes.items in
    let asked = c.size-wanted.result in
    let lengths = code_lengths t all sizes in
    let wanted = code_length t st (slice_index sizes i) in
    let told = length_of_size t st (slice_index sizes i) (size_here t all sizes i st (drop (i + 1) all) c.requires.sizes at.next) in
    let here : slice_index lengths i ≡ wanted = length_there t all sizes i st (drop (i + 1) all) c.requires.sizes at.next in
    let long : i < length lengths = subst (λ n. i < n) (sym (lengths_count t all sizes c.requires.sizes ∙ c.requires.count)) (inside b) in
    let next : suc i ≡ i + 1 = omega arith in
    let first : IsAdded c.loop-index.coder c.add.new.self p.section e.section.executable faults (λ e. value_of t true (i + 1) (offset_of p) e) rvc asked x =
    subst (λ w. IsAdded c.loop-index.coder c.add.new.self p.section e.section.executable (faults_in (tables (said w)) (i + 1) (offset_of p) x) (λ e. value_of (tables (said w)) true (i + 1) (offset_of p) e) rvc asked x) same
    (c.in_ok-add.ensures i (filled_now h) c.loop-index.invariant.1) in
    let added : IsAdded c.loop-index.coder c.add.new.self p.section e.section.executable faults (λ e. value_of t true (i + 1) (offset_of p) e) rvc wanted x =
    added_as c.loop-index.coder c.add.new.self p.section e.section.executable faults (λ e. value_of t true (i + 1) (offset_of p) e) rvc asked wanted x
    (λ near. c.size-wanted.ensures ∙ sym (near_same t st rvc st.home.executable (slice_index sizes i) x.kind near)) first in
    let within' = subst (λ w. i < length (said w)) (sym same) (inside b) in (
      ap (λ b. b.now) c.pass.ensures.unit ∙ same,
      c.pass.ensures.passes i within' c.loop-index.invariant.1,
      code_more u i wanted x p rvc e.section.executable c.loop-index.coder c.add.new.self faults at c.loop-index.invariant.2 known (compressed_is h (inside b)) (code_there u i x p e at (extent h)) added,
      added.grows.0 ∙ c.loop-index.invariant.3,
      told_more u i wanted x p rvc e.section.executable c.loop-index.coder c.add.new.self faults at known (compressed_is h (inside b)) (code_there u i x p e at (extent h)) added told.told
          ∙ ap (λ l. l ++ wanted ∷ []) c.loop-index.invariant.4 ∙ ap (λ n. take i lengths ++ n ∷ []) (sym here) ∙ sym (take_next lengths i 0 long) ∙ ap (λ n. take n lengths) next,
    )

pub returns-in_err-add-clause-code : goal.returns-in_err-add-clause-code
returns-in_err-add-clause-code c =
    let h = (goal.at.returns-in_err-add-clause-code c).After-read in
    let u = c.args.unit.now in
    let i = c.loop-index.index in
    let x = statement h in
    let p = home h in
    let at = standing h in
    let e = c.extent_at-extent.result in
    let rvc = c.rvc-compressed.result in
    let same = c.loop-index.invariant.0 in
    let faults = faults_in (tables (said u)) (i + 1) (offset_of p) x in
    let known = faults_there u i x p at in
    let wrong =
    subst (λ w. Adds c.loop-index.coder c.add.new.self p.section e.section.executable (faults_in (tables (said w)) (i + 1) (offset_of p) x) (λ e. value_of (tables (said w)) true (i + 1) (offset_of p) e) rvc c.size-wanted.result x (Err c.in_err-add.field-0.0)) same
    (c.in_err-add.ensures i (filled_now h) c.loop-index.invariant.1) in
    let found = err_from_is_err_and c.from_residual-in_err-add.result c.from_residual-in_err-add.ensures.1 in
    rw (found.1, found.2)
    (code_wrong u i c.size-wanted.result x p rvc e.section.executable c.loop-index.coder c.add.new.self faults c.in_err-add.field-0.0 at c.loop-index.invariant.2 known wrong (code_lengths (tables (said u)) (located_from 1 1 (at_start (said u)) (said u)) c.args.layout.now.sizes.items))

pub returns-clause-code : goal.returns-clause-code
returns-clause-code c =
    let u = c.args.unit.now in
    let i = c.loop-index.index in
    let past : length (said u) ≤ i = subst (λ n. n ≤ i) (c.len-index-end.ensures ∙ ap (λ l. length (statements_of l)) c.statements-statements.ensures) c.loop-index-test.false in
    let t = tables (said u) in
    let all = located_from 1 1 (at_start (said u)) (said u) in
    let sizes = c.args.layout.now.sizes.items in
    let lengths = code_lengths t all sizes in
    let told : bytes_of_sizes c.loop-index.coder.sizes.items ≡ lengths = c.loop-index.invariant.4 ∙ take_past lengths i (subst (λ n. n ≤ i) (sym (lengths_count t all sizes c.requires.sizes ∙ c.requires.count)) past) in
    code_whole (said u) lengths i c.loop-index.coder c.finish.result (stated_none (said u) i past) c.loop-index.invariant.2 c.requires.least
    (λ t all so_far. subst (λ l. IsAllCode t all l c.finish.result) told (c.finish.ensures.code t all so_far))

pub returns-clause-count : goal.returns-clause-count
returns-clause-count c = subst (λ n. IfOk c.finish.result (λ (found : SectionCode). length found.sections.items ≡ n)) c.loop-index.invariant.3 c.finish.ensures.count
