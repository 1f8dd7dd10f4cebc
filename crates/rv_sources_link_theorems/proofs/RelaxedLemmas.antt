-- The program of the objects of sources, once relaxation is done, is the linked program of the sources.

use Rattle.std.proofs.Common.{◌≡◌, ℕ, suc, ◌+◌, ◌-◌, Bool, false, List, [], ◌∷◌, map, refl, sym, ap, ◌∙◌, subst, arith}
use Rattle.std.specs.Prelude.{◌==◌, filter, slice_index_or}
use Rattle.std.specs.List.{AllByRecursion}
use Rattle.rv_list_laws.proofs.EachLemmas.{each_map}
use Rattle.rv_statement_laws.specs.Statement.{Statement}
use Rattle.rv_unit_laws.specs.Sections.{goes_to_text as source_text}
use Rattle.rv_unit_laws.specs.Tables.{tables, at_start}
use Rattle.rv_source_laws.specs.Program.{Program, program}
use Rattle.rv_source_laws.specs.Fits as source
use Rattle.rv_image_laws.specs.Linked.{Linked}
use Rattle.rv_collect_laws.specs.Graph.{AreDrops}
use Rattle.rv_source_laws.specs.Collected.{graph_of}
use Rattle.rv_source_laws.specs.Sized.{Sized}
use Rattle.rv_source_laws.specs.Shortened.{Shortened, HaveBytes, text_of}
use Rattle.rv_chain_laws.specs.Contents.{IsLinked}
use Rattle.rv_object_laws.specs.Object.{Object}
use Rattle.rv_link_laws.specs.declared.bounds.Ground.{Ground}
use Rattle.rv_link_laws.specs.CallSites.{base_in}
use Rattle.rv_link_laws.specs.Inputs.{Starts, InputSection, goes_to_text, inputs}
use Rattle.rv_link_laws.specs.IsLinkOf.{IsLinkOf}
use Rattle.rv_link_laws.specs.Shortened.{Sizes}
use Rattle.rv_assemble_laws.specs.LaidStatements.{LaidStatement}
use Rattle.rv_sources_link_theorems.proofs.sections.KeptLemmas.{AreKept, AreMasked}
use Rattle.rv_sources_link_theorems.proofs.sections.AssembledLemmas.{AreAssembled}
use Rattle.rv_sources_link_theorems.proofs.sections.FilesLemmas.{AreFiles, files, statements_ours, tables_by}
use Rattle.rv_sources_link_theorems.proofs.calls.FinalsLemmas.{IsResized, AreCut, AreFinal, all_final, all_masked}
use Rattle.rv_sources_link_theorems.proofs.names.JoinedLemmas.{given, resolves}
use Rattle.rv_sources_link_theorems.proofs.LinkedLemmas.{linked}
use Rattle.rv_sources_link_theorems.proofs.moves.PiecesLemmas.{ArePieces, text_is, have_bytes}
use Rattle.rv_sources_link_theorems.proofs.moves.PiecesOfLemmas.{laid_by, pieces, apart}
use Rattle.rv_sources_link_theorems.proofs.moves.ShrinkingLemmas.{shrunk_objects}
use Rattle.rv_sources_link_theorems.proofs.moves.ShrunkLinkLemmas.{shrunk_link}
use Rattle.rv_sources_link_theorems.proofs.moves.ShrinksLemmas.{Begun, begun_all, objects_shrink, all_begin, all_tidy}
use Rattle.rv_sources_link_theorems.proofs.moves.ShrunkLemmas as shrunk
use Rattle.rv_sources_link_theorems.proofs.SizedLemmas.{sized_from}
use Rattle.rv_sources_link_theorems.proofs.calls.UncutLemmas.{IsUncut, all_uncut, assembled_laid, assembled_dropped, all_assembled}

module _ (sources : List (List Statement)) (os : List Object) (bounds : Ground) (l : Linked) (h : AreKept sources os) (masks : AreMasked l.map.drops 1 sources os h) (us : List Object) (k : AreAssembled sources us)
    (sizes : ℕ → ℕ → Sizes) (c : AreCut sizes 1 sources os h us k) (link : IsLinkOf us bounds l) where
  abbrev pub p : Program
  p = program sources l.map

  pub begun : AllByRecursion (Begun link.starts) (inputs goes_to_text us)
  begun = begun_all link.starts bounds.text (inputs goes_to_text us) link.text.1

  -- the objects with their paddings shrunk
  abbrev pub ws : List Object
  ws = shrunk_objects link.starts 1 us

  abbrev pub are : shrunk.AreObjectsOf sources ws
  are = objects_shrink link.starts 1 sources us k begun

  pub made : IsLinkOf ws bounds l
  made = shrunk_link us bounds l link (λ goes. all_tidy link.starts goes 1 sources us k begun) (all_begin link.starts 1 sources us k begun)

  pub finals : AreFinal sizes 1 sources os h ws are
  finals = all_final link.starts sizes 1 sources os h us k c begun

  abbrev pub starts : Starts
  starts = made.starts

  pub left_masks : shrunk.AreMasked l.map.drops 1 sources ws are
  left_masks = all_masked l.map.drops link.starts sizes 1 sources os h us k c masks begun

  pub are_files : AreFiles p starts 1 sources ws are
  are_files = files sources ws l.map starts are left_masks made.rows

  -- the statements of each file
  abbrev pub at : ℕ → List LaidStatement
  at file = laid_by sources os h (file - 1)

  pub are_pieces : ArePieces p starts at sizes (inputs goes_to_text os) (source.input_sections source_text sources l.map)
  are_pieces =
      pieces p starts at sizes l.map.drops 1 sources os h masks ws are finals are_files (λ i. ap (laid_by sources os h) (let e : 1 + i - 1 ≡ i = omega arith in e))

  sized : Sized sources l.map
  sized =
      sized_from starts p sizes 1 sources os h ws are finals
      (λ f low. ap (λ es. filter (λ e. e.located.file == f) es) (statements_ours sources ws l.map starts are left_masks made.rows))
      (λ i. ap (λ n. slice_index_or (map tables sources) n (at_start [])) (let e : 1 + i - 1 ≡ i = omega arith in e) ∙ tables_by sources i)

  -- the rows of calls
  pub bytes_of_calls : (size : ℕ → ℕ) → AllByRecursion (λ (i : InputSection). (n : ℕ) → sizes i.file i.index n ≡ size (0 + base_in (inputs goes_to_text os) i.file i.index + n)) (inputs goes_to_text os)
      → HaveBytes size (text_of sources l.map)
  bytes_of_calls size by =
      subst (HaveBytes size) (sym (text_is p starts at sizes 0 (inputs goes_to_text os) (source.input_sections source_text sources l.map) are_pieces))
      (have_bytes p starts at sizes size 0 (inputs goes_to_text os) (source.input_sections source_text sources l.map) are_pieces (apart p starts at sizes 1 os) by)

  pub joined : (relax gc : Bool) → AreDrops gc (graph_of sources) l.map.drops → Shortened relax sources l.map → IsLinked sources bounds.text relax gc l
  joined relax gc collected shortened =
      linked sources ws bounds l are left_masks made (given sources ws bounds l are left_masks made) relax gc collected sized shortened (resolves sources ws bounds l are left_masks made)

-- ---- without relaxation

whole_from : (file : ℕ) (sources : List (List Statement)) (os : List Object) (h : AreKept sources os) → AreCut (λ f j n. 8) file sources os h os (all_assembled sources os h)
unfolding all_assembled
whole_from file [] [] h = tt
whole_from file [] (o ∷ os) h = absurd h
whole_from file (ss ∷ sources) [] h = absurd h
whole_from file (ss ∷ sources) (o ∷ os) (is, h) = (
  record {
    dropped = assembled_dropped ss o is;
    mv = λ z. z;
    laid = assembled_laid ss o is ∙ sym (map_same is.laid);
    stays = λ z. refl;
    resized = each_map IsUncut (λ z. IsResized (λ j n. 8) z z) is.laid (λ z e. ((λ text call. e call), (λ call. refl))) (all_uncut ss o is);
  },
  whole_from (suc file) sources os h,
)
  where
    map_same : (zs : List LaidStatement) → map (λ z. z) zs ≡ zs
    map_same [] = refl
    map_same (z ∷ zs) = ap (λ l. z ∷ l) (map_same zs)

eight_all : (size : ℕ → ℕ) → ((n : ℕ) → size n ≡ 8) → (offset : InputSection → ℕ → ℕ) (is : List InputSection) → AllByRecursion (λ i. (n : ℕ) → 8 ≡ size (offset i n)) is
eight_all size e offset [] = tt
eight_all size e offset (i ∷ is) = ((λ n. sym (e (offset i n))), eight_all size e offset is)

pub unrelaxed : (sources : List (List Statement)) (os : List Object) (bounds : Ground) (gc : Bool) (l : Linked) (h : AreKept sources os) → AreMasked l.map.drops 1 sources os h → AreDrops gc (graph_of sources) l.map.drops
    → IsLinkOf os bounds l → IsLinked sources bounds.text false gc l
unrelaxed sources os bounds gc l h masks collected link =
    let k = all_assembled sources os h in
    let c = whole_from 1 sources os h in
    joined sources os bounds l h masks os k (λ f j n. 8) c link false gc collected
    (bytes_of_calls sources os bounds l h masks os k (λ f j n. 8) c link (λ n. 8)
    (eight_all (λ n. 8) (λ n. refl) (λ i n. 0 + base_in (inputs goes_to_text os) i.file i.index + n) (inputs goes_to_text os)))
