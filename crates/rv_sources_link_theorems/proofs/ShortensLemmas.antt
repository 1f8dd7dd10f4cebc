-- The program of the objects of sources with their calls shortened is the linked program of the sources.

use Rattle.std.proofs.Common.{◌≡◌, ℕ, zero, suc, ◌+◌, ◌-◌, ◌≤◌, ◌<◌, Bool, true, false, List, [], ◌∷◌, ◌++◌, map, refl, sym, ap, ◌∙◌, subst, arith, Option, Some}
use Rattle.std.proofs.lemmas.Bool.{and_parts, eq-eqb, ne_eqb}
use Rattle.std.proofs.lemmas.List.Folds.{list_any-append}
use Rattle.std.specs.Prelude.{⊤, ◌&&◌, ◌||◌, ◌==◌, if◌then◌else◌, flat_map, option_and_then}
use Rattle.std.specs.List.{AllByRecursion, slice_get, list_any}
use Rattle.rv_list_laws.proofs.FilterLemmas.{each_filter}
use Rattle.rv_list_laws.proofs.FindLemmas.{each_find}
use Rattle.rv_list_laws.proofs.EachLemmas.{each_append}
use Rattle.rv_size_laws.specs.Sites.{padding_site, size_at}
use Rattle.rv_expression_laws.specs.Expression.{Primary}
use Rattle.rv_statement_laws.specs.Statement.{Statement}
use Rattle.rv_unit_laws.specs.Sections.{Section as SourceSection, goes_to_text as source_text}
use Rattle.rv_unit_laws.specs.Tables.{tables}
use Rattle.rv_size_laws.specs.declared.site.Site.{Site as Spot}
use Rattle.rv_size_laws.specs.Calls.{IsGreatestClosed, is_call as is_call_spot}
use Rattle.rv_collect_laws.specs.Graph.{AreDrops}
use Rattle.rv_source_laws.specs.Collected.{graph_of}
use Rattle.rv_source_laws.specs.Located.{Located, has_row}
use Rattle.rv_source_laws.specs.Compressed.{is_compressed_code}
use Rattle.rv_source_laws.specs.Program.{MaybeMapped, Program, program}
use Rattle.rv_source_laws.specs.Fits as source
use Rattle.rv_image_laws.specs.Linked.{Linked}
use Rattle.rv_source_laws.specs.Shortened as line
use Rattle.rv_source_laws.specs.Shortened.{Placed, HaveBytes, text_of, full_length, placed_from, sites_at, has_compressed, aim_of}
use Rattle.rv_chain_laws.specs.Contents.{IsLinked}
use Rattle.rv_object_laws.specs.Object.{Section, Symbol, Object, size_of, stored}
use Rattle.rv_link_laws.specs.declared.bounds.Ground.{Ground}
use Rattle.rv_link_laws.specs.CallSites.{base_in, start_padding, changes, site_of, sites_from, sites_of, is_entered}
use Rattle.rv_link_laws.specs.Inputs.{Starts, InputSection, goes_to_text, inputs_from, inputs_of, inputs, begins_at}
use Rattle.rv_link_laws.specs.IsLinkOf.{IsLinkOf}
use Rattle.rv_link_laws.specs.Names.{symbol_place}
use Rattle.rv_link_laws.specs.Shortened.{Sizes, sizes_by, shortened_object, shortened_from, shortened, Relaxes}
use Rattle.rv_assemble_laws.specs.LaidStatements.{LaidStatement, part_bytes, laid_in}
use Rattle.rv_assemble_laws.specs.Symbols.{laid_at, StandsFor}
use Rattle.rv_assemble_laws.specs.IsObjectOf.{relocations_from}
use Rattle.rv_sources_link_theorems.proofs.sections.KeptLemmas.{IsKept, AreKept, AreMasked}
use Rattle.rv_sources_link_theorems.proofs.sections.MaskedLemmas.{source_sections}
use Rattle.rv_sources_link_theorems.proofs.sections.AssembledLemmas.{IsAssembled, AreAssembled, AreSectionsOf, IsSectionOf, parts}
use Rattle.rv_sources_link_theorems.proofs.calls.ChangesOfLemmas as changed
use Rattle.rv_sources_link_theorems.proofs.calls.CutObjectsLemmas as cut
use Rattle.rv_sources_link_theorems.proofs.calls.CutObjectsLemmas.{Fitting, cut_is, cut_laid, cut_dropped}
use Rattle.rv_sources_link_theorems.proofs.calls.CutSectionsLemmas.{stored_is}
use Rattle.rv_sources_link_theorems.proofs.fields.TextPlacesLemmas.{stands_in, aim_at}
use Rattle.rv_sources_link_theorems.proofs.sections.FilesLemmas.{AreFiles, statements_ours}
use Rattle.rv_sources_link_theorems.proofs.calls.FinalsLemmas.{IsResized, AreCut, AreFinal}
use Rattle.rv_sources_link_theorems.proofs.calls.FormsLemmas.{fitting}
use Rattle.rv_sources_link_theorems.proofs.moves.PiecesLemmas.{IsPiece, ArePieces, placed_at, text_is, piece_placed, piece_length, piece_start, line_at, line_of, lines}
use Rattle.rv_sources_link_theorems.proofs.moves.PiecesOfLemmas.{laid_by}
use Rattle.rv_sources_link_theorems.proofs.RelaxedLemmas as relaxed
use Rattle.rv_sources_link_theorems.proofs.statements.SettledLemmas.{IsSettled, laid_are_in}
use Rattle.rv_sources_link_theorems.proofs.moves.ShrinkingLemmas.{AreAt, all_at}
use Rattle.rv_sources_link_theorems.proofs.moves.ShrunkLemmas as shrunk
use Rattle.rv_sources_link_theorems.proofs.statements.StatementsLemmas.{renumbered, statement_at, all_statements}
use Rattle.rv_sources_link_theorems.proofs.sections.StoodLemmas.{IsAside, not_entered}
use Rattle.rv_sources_link_theorems.proofs.fields.TargetsLemmas as targets
use Rattle.rv_sources_link_theorems.proofs.fields.TargetsLemmas.{all_settled}
use Rattle.rv_sources_link_theorems.proofs.calls.UncutLemmas.{IsUncut, all_uncut, sections_same, assembled, assembled_laid, assembled_dropped}
use Rattle.rv_sources_link_theorems.proofs.fields.WholesLemmas.{IsSound, sound}

-- ---- the objects with their calls shortened

module _ (sizes : ℕ → ℕ → Sizes) where
  -- each call has a form
  abbrev AreFitting : ℕ → (sources : List (List Statement)) (us : List Object) → AreKept sources us → Type 0
  AreFitting file [] [] h = ⊤
  AreFitting file [] (o ∷ us) h = absurd h
  AreFitting file (ss ∷ sources) [] h = absurd h
  AreFitting file (ss ∷ sources) (o ∷ us) (is, h) = AllByRecursion (Fitting (sizes file)) is.laid × AreFitting (suc file) sources us h

  module _ (ss : List Statement) (o : Object) (is : IsKept ss o) (its : ℕ → Sizes) (fit : AllByRecursion (Fitting its) is.laid) where
    whole_uncut : AllByRecursion IsUncut (assembled ss o is).laid
    whole_uncut = subst (λ l. AllByRecursion IsUncut l) (sym (assembled_laid ss o is)) (all_uncut ss o is)

    whole_fit : AllByRecursion (Fitting its) (assembled ss o is).laid
    whole_fit = subst (λ l. AllByRecursion (Fitting its) l) (sym (assembled_laid ss o is)) fit

    abbrev one : IsAssembled ss (shortened_object its o)
    one = cut_is ss o (assembled ss o is) whole_uncut its whole_fit

    one_laid : one.laid ≡ map (cut.mv its o) is.laid
    one_laid = cut_laid ss o (assembled ss o is) whole_uncut its whole_fit ∙ ap (map (cut.mv its o)) (assembled_laid ss o is)

    one_dropped : one.dropped ≡ is.dropped
    one_dropped = cut_dropped ss o (assembled ss o is) whole_uncut its whole_fit ∙ assembled_dropped ss o is

    one_resized : AllByRecursion (λ z. IsResized its z (cut.mv its o z)) is.laid
    one_resized = subst (λ l. AllByRecursion (λ z. IsResized its z (cut.mv its o z)) l) (assembled_laid ss o is) (cut.all_resized ss o (assembled ss o is) whole_uncut its whole_fit)

  unfoldable cut_all : (file : ℕ) (sources : List (List Statement)) (us : List Object) (h : AreKept sources us) → AreFitting file sources us h → AreAssembled sources (shortened_from sizes file us)
  cut_all file [] [] h f = tt
  cut_all file [] (o ∷ us) h f = absurd h
  cut_all file (ss ∷ sources) [] h f = absurd h
  cut_all file (ss ∷ sources) (o ∷ us) (is, h) (f, fs) = (one ss o is (sizes file) f, cut_all (suc file) sources us h fs)

  are_cut : (file : ℕ) (sources : List (List Statement)) (us : List Object) (h : AreKept sources us) (f : AreFitting file sources us h) → AreCut sizes file sources us h (shortened_from sizes file us) (cut_all file sources us h f)
  unfolding cut_all
  are_cut file [] [] h f = tt
  are_cut file [] (o ∷ us) h f = absurd h
  are_cut file (ss ∷ sources) [] h f = absurd h
  are_cut file (ss ∷ sources) (o ∷ us) (is, h) (f, fs) = (
    record { dropped = one_dropped ss o is (sizes file) f; mv = cut.mv (sizes file) o; laid = one_laid ss o is (sizes file) f; stays = λ z. refl; resized = one_resized ss o is (sizes file) f },
    are_cut (suc file) sources us h fs,
  )

-- ---- flags

module _ (starts : Starts) (sizes : ℕ → ℕ → Sizes) where
  abbrev is_flagged : ℕ → MaybeMapped → Bool
  is_flagged f e = (e.located.file == f) && is_compressed_code e.located

  own_flags : (f : ℕ) (final : LaidStatement → LaidStatement) → ((z : LaidStatement) → (final z).located ≡ z.located) → (zs : List LaidStatement)
      → list_any (is_flagged f) (map (statement_at starts f) (map final zs)) ≡ list_any (λ z. is_compressed_code z.located) zs
  own_flags f final stays [] = refl
  own_flags f final stays (z ∷ zs) =
      ap (λ b. (b && is_compressed_code (final z).located) || list_any (is_flagged f) (map (statement_at starts f) (map final zs))) (eq-eqb f f refl)
      ∙ ap (λ (l : Located). is_compressed_code l || list_any (is_flagged f) (map (statement_at starts f) (map final zs))) (stays z)
      ∙ ap (λ b. is_compressed_code z.located || b) (own_flags f final stays zs)

  other_flags : (k f : ℕ) → (k == f) ≡ false → (ys : List LaidStatement) → list_any (is_flagged f) (map (statement_at starts k) ys) ≡ false
  other_flags k f e [] = refl
  other_flags k f e (y ∷ ys) = ap (λ b. (b && is_compressed_code y.located) || list_any (is_flagged f) (map (statement_at starts k) ys)) e ∙ other_flags k f e ys

  no_flags : (k f : ℕ) → f < k → (sources : List (List Statement)) (ws : List Object) (q : shrunk.AreObjectsOf sources ws) → list_any (is_flagged f) (all_statements starts k sources ws q) ≡ false
  no_flags k f l [] [] q = refl
  no_flags k f l [] (w ∷ ws) q = absurd q
  no_flags k f l (ss ∷ sources) [] q = absurd q
  no_flags k f l (ss ∷ sources) (w ∷ ws) (js, q) =
      list_any-append (is_flagged f) (map (statement_at starts k) js.laid) (all_statements starts (suc k) sources ws q)
      ∙ ap (λ b. b || list_any (is_flagged f) (all_statements starts (suc k) sources ws q)) (other_flags k f (ne_eqb k f (λ e. omega (arith, e, l))) js.laid)
      ∙ no_flags (suc k) f (omega (arith, l)) sources ws q

  -- the flag of the file after so many others
  flags_by : (k i : ℕ) (sources : List (List Statement)) (os : List Object) (h : AreKept sources os) (ws : List Object) (q : shrunk.AreObjectsOf sources ws) → AreFinal sizes k sources os h ws q
      → list_any (is_flagged (k + i)) (all_statements starts k sources ws q) ≡ list_any (λ z. is_compressed_code z.located) (laid_by sources os h i)
  flags_by k i [] [] h [] q c = refl
  flags_by k i [] [] h (w ∷ ws) q c = absurd q
  flags_by k i [] (o ∷ os) h ws q c = absurd h
  flags_by k i (ss ∷ sources) [] h ws q c = absurd h
  flags_by k i (ss ∷ sources) (o ∷ os) (is, h) [] q c = absurd q
  flags_by k zero (ss ∷ sources) (o ∷ os) (is, h) (w ∷ ws) (js, q) (c, cs) =
      ap (λ f. list_any (is_flagged f) (map (statement_at starts k) js.laid ++ all_statements starts (suc k) sources ws q)) (let e : k + 0 ≡ k = omega arith in e)
      ∙ list_any-append (is_flagged k) (map (statement_at starts k) js.laid) (all_statements starts (suc k) sources ws q)
      ∙ ap (λ b. list_any (is_flagged k) (map (statement_at starts k) js.laid) || b) (no_flags (suc k) k (omega arith) sources ws q)
      ∙ or_false (list_any (is_flagged k) (map (statement_at starts k) js.laid))
      ∙ ap (λ l. list_any (is_flagged k) (map (statement_at starts k) l)) c.laid ∙ own_flags k c.final c.stays is.laid
    where
      or_false : (b : Bool) → (b || false) ≡ b
      or_false true = refl
      or_false false = refl
  flags_by k (suc i) (ss ∷ sources) (o ∷ os) (is, h) (w ∷ ws) (js, q) (c, cs) =
      list_any-append (is_flagged (k + suc i)) (map (statement_at starts k) js.laid) (all_statements starts (suc k) sources ws q)
      ∙ ap (λ b. b || list_any (is_flagged (k + suc i)) (all_statements starts (suc k) sources ws q)) (other_flags k (k + suc i) (ne_eqb k (k + suc i) (λ e. omega (arith, e))) js.laid)
      ∙ ap (λ f. list_any (is_flagged f) (all_statements starts (suc k) sources ws q)) (let e : k + suc i ≡ suc k + i = omega arith in e)
      ∙ flags_by (suc k) i sources os h ws q cs

-- ---- the sites

size_same : (ss : List Spot) (kept : List ℕ) (o : ℕ) → size_at ss kept o ≡ size_at ss kept o
size_same [] kept o = refl
size_same (s ∷ ss) [] o = refl
size_same (s ∷ ss) (k ∷ kept) o = ap (λ n. if is_call_spot s.kind && (s.offset == o) then k else n) (size_same ss kept o)

bytes_same : (size other : ℕ → ℕ) → ((o : ℕ) → size o ≡ other o) → (text : List Placed) → HaveBytes size text → HaveBytes other text
bytes_same size other e [] h = tt
bytes_same size other e (x ∷ text) (h, hs) = ((λ c. h c ∙ e x.offset), bytes_same size other e text hs)

module _ (p : Program) (starts : Starts) (at : ℕ → List LaidStatement) (sizes : ℕ → ℕ → Sizes) (os : List Object) (text : List Placed) where
  -- the changes of a section are those of its statements
  abbrev Makes : InputSection → Type 0
  Makes i = (b : source.InputSection) (h : IsPiece p starts at sizes i b) (first : ℕ) → map (site_of os i first) (changes os i) ≡ flat_map (sites_at p text) (line_at p starts at sizes first i b h)

  sites_same : (off : ℕ) (is : List InputSection) (bs : List source.InputSection) → ArePieces p starts at sizes is bs → AllByRecursion Makes is → line.sites_from p text off bs ≡ sites_from os off is
  sites_same off [] [] h m = refl
  sites_same off [] (b ∷ bs) h m = absurd h
  sites_same off (i ∷ is) [] h m = absurd h
  sites_same off (i ∷ is) (b ∷ bs) (h, hs) (m, ms) =
      let a = start_padding i.section in
      let first = off + a in
      ap (λ n. padding_site off n b.alignment ∷ (flat_map (sites_at p text) (placed_from p (off + n) b.mapped) ++ line.sites_from p text (off + n + full_length p b.mapped) bs)) (piece_start p starts at sizes i b h)
      ∙ ap (λ n. padding_site off a n ∷ (flat_map (sites_at p text) (placed_from p first b.mapped) ++ line.sites_from p text (first + full_length p b.mapped) bs)) (sym h.alignment)
      ∙ ap (λ l. spot off a i ∷ (flat_map (sites_at p text) l ++ line.sites_from p text (first + full_length p b.mapped) bs)) (piece_placed p starts at sizes first i b h)
      ∙ ap (λ l. spot off a i ∷ (l ++ line.sites_from p text (first + full_length p b.mapped) bs)) (sym (m b h first))
      ∙ ap (λ n. spot off a i ∷ (map (site_of os i first) (changes os i) ++ line.sites_from p text (first + n) bs)) (piece_length p starts at sizes i b h)
      ∙ ap (λ l. spot off a i ∷ (map (site_of os i first) (changes os i) ++ l)) (sites_same (first + size_of i.section.contents) is bs hs ms)
    where
      spot : ℕ → ℕ → InputSection → Spot
      spot off a i = padding_site off a (begins_at i.section)

-- ---- the sites of sources are those of their objects

module _ (sources : List (List Statement)) (os : List Object) (bounds : Ground) (l : Linked) (h : AreKept sources os) (masks : AreMasked l.map.drops 1 sources os h) (us : List Object) (k : AreAssembled sources us)
    (sizes : ℕ → ℕ → Sizes) (c : AreCut sizes 1 sources os h us k) (link : IsLinkOf us bounds l) where
  abbrev p : Program
  p = program sources l.map

  abbrev starts : Starts
  starts = relaxed.starts sources os bounds l h masks us k sizes c link

  abbrev at : ℕ → List LaidStatement
  at = relaxed.at sources os bounds l h masks us k sizes c link

  abbrev ws : List Object
  ws = relaxed.ws sources os bounds l h masks us k sizes c link

  are : shrunk.AreObjectsOf sources ws
  are = relaxed.are sources os bounds l h masks us k sizes c link

  abbrev bs : List source.InputSection
  bs = source.input_sections source_text sources l.map

  abbrev text : List Placed
  text = text_of sources l.map

  pieces_are : ArePieces p starts at sizes (inputs goes_to_text os) bs
  pieces_are = relaxed.are_pieces sources os bounds l h masks us k sizes c link

  text_line : text ≡ lines p starts at sizes 0 (inputs goes_to_text os) bs pieces_are
  text_line = text_is p starts at sizes 0 (inputs goes_to_text os) bs pieces_are

  finals : AreFinal sizes 1 sources os h ws (relaxed.are sources os bounds l h masks us k sizes c link)
  finals = relaxed.finals sources os bounds l h masks us k sizes c link

  statements : p.statements ≡ all_statements starts 1 sources ws (relaxed.are sources os bounds l h masks us k sizes c link)
  statements = statements_ours sources ws l.map starts (relaxed.are sources os bounds l h masks us k sizes c link) (relaxed.left_masks sources os bounds l h masks us k sizes c link) (relaxed.made sources os bounds l h masks us k sizes c link).rows

  -- what is known of each file
  abbrev AreHere : ℕ → (ts : List (List Statement)) (vs : List Object) → AreKept ts vs → Type 0
  AreHere = targets.AreHere p starts at sizes os bs pieces_are

  heres : (f : ℕ) (ts : List (List Statement)) (vs : List Object) (q : AreKept ts vs) (xs : List Object) (r : shrunk.AreObjectsOf ts xs) → 1 ≤ f → AreAt os f vs → AreFiles p starts f ts xs r
      → ((i : ℕ) → at (f + i) ≡ laid_by ts vs q i) → AreHere f ts vs q
  heres f [] [] q xs r low e files own = tt
  heres f [] (v ∷ vs) q xs r low e files own = absurd q
  heres f (ss ∷ ts) [] q xs r low e files own = absurd q
  heres f (ss ∷ ts) (v ∷ vs) (is, q) [] r low e files own = absurd r
  heres f (ss ∷ ts) (v ∷ vs) (is, q) (x ∷ xs) (js, r) low (e, es) (file, files) own = (
    record { low = low; laid = ap at (let g : f ≡ f + 0 = omega arith in g) ∙ own 0; object = e; tables = file.tables },
    heres (suc f) ts vs q xs r (omega (arith, low)) es files (λ i. ap at (let g : suc f + i ≡ f + suc i = omega arith in g) ∙ own (suc i)),
  )

  all_here : AreHere 1 sources os h
  all_here =
      heres 1 sources os h ws (relaxed.are sources os bounds l h masks us k sizes c link) (omega arith) (all_at os) (relaxed.are_files sources os bounds l h masks us k sizes c link)
      (λ i. ap (laid_by sources os h) (let e : 1 + i - 1 ≡ i = omega arith in e))

  -- ---- a file

  module _ (f : ℕ) (ss : List Statement) (o : Object) (is : IsKept ss o) (here : targets.IsHere p starts at sizes os bs pieces_are f ss o is) where
    abbrev sections : List SourceSection
    sections = source_sections is.dropped ss

    flag : o.rvc ≡ has_compressed p f
    flag =
        is.rvc ∙ ap (list_any (λ (z : LaidStatement). is_compressed_code z.located)) (sym here.laid)
        ∙ sym (flags_by starts sizes 1 (f - 1) sources os h ws (relaxed.are sources os bounds l h masks us k sizes c link) finals)
        ∙ ap (λ n. list_any (λ (e : MaybeMapped). (e.located.file == n) && is_compressed_code e.located) (all_statements starts 1 sources ws (relaxed.are sources os bounds l h masks us k sizes c link)))
        (let low = here.low in let e : 1 + (f - 1) ≡ f = omega (arith, low) in e)
        ∙ ap (list_any (λ (e : MaybeMapped). (e.located.file == f) && is_compressed_code e.located)) (sym statements)

    meant : (z : Located) (name : Primary) (y : Option Symbol) → StandsFor (tables ss) is.laid z.ordinal name y
        → stands_in os (option_and_then (symbol_place os f) y) ≡ option_and_then (aim_at text) (aim_of p (renumbered f z) name)
    meant z name y s =
        targets.meant p starts at sizes os bs pieces_are sources h ws (relaxed.are sources os bounds l h masks us k sizes c link) finals all_here statements f ss o is here z name y s
        ∙ ap (λ t. option_and_then (aim_at t) (aim_of p (renumbered f z) name)) (sym text_line)

    abbrev input : ℕ → Section → InputSection
    input index x = record { file = f; object = o; index = index; section = x }

    module _ (index : ℕ) (s : SourceSection) (x : Section) (hx : IsSectionOf (tables ss) is.laid is.number o.symbols index s (laid_in index is.laid) x) (at_s : slice_get sections index ≡ Some s)
        (text_s : source_text s ≡ true) where
      abbrev zs : List LaidStatement
      zs = laid_in index is.laid

      loaded : s.loaded ≡ true
      loaded = (and_parts s.loaded s.executable text_s).0

      at_home : (n : ℕ) (z : LaidStatement) → laid_at is.laid n ≡ Some z → z.located.section ≡ index → source_text z.located.home ≡ true
      at_home n z e there =
          let settled_here = each_find (IsSettled sections) (λ z. z.located.ordinal == n) is.laid (all_settled ss o is) z e in
          let both : Some z.located.home ≡ Some s = sym settled_here.home ∙ ap (slice_get sections) there ∙ at_s in
          let same : z.located.home ≡ s = cc in
          ap source_text same ∙ text_s

      none_inside : (q : ℕ) → AllByRecursion (IsAside q) zs → is_entered o index q ≡ false
      none_inside q aside = not_entered is.laid index q at_home aside o is.stood

      whole : x.relocations ≡ relocations_from is.number 0 (parts (tables ss) zs)
      whole = hx.relocations ∙ ap (λ b. if b then relocations_from is.number 0 (parts (tables ss) zs) else []) loaded

      bytes_are : stored x.contents ≡ flat_map part_bytes (parts (tables ss) zs)
      bytes_are = stored_is (tables ss) is.laid is.number o.symbols index s x zs hx text_s

      make_one : Makes p starts at sizes os text (input index x)
      make_one b piece first =
          changed.sites_made p starts os text f (tables ss) here.tables o index x s text_s is.number is.laid zs x.alignment flag meant piece.final piece.stays none_inside whole bytes_are
          hx.tile (laid_are_in sections index s is.laid at_s (all_settled ss o is)) (each_filter IsUncut (λ z. z.located.section == index) is.laid (all_uncut ss o is))
          (each_filter (λ z. IsSound (tables ss) z.located) (λ z. z.located.section == index) is.laid (sound ss is.laid is.dropped is.good is.located)) hx.sizes (hx.numbered loaded) first
          ∙ ap (flat_map (sites_at p text)) (lined_same zs ∙ ap (λ S. line_of p starts at sizes f piece.t piece.tables piece.final piece.stays first (laid_in index S)) (sym here.laid))
        where
          lined_same : (ys : List LaidStatement)
              → changed.lined p starts os text f (tables ss) here.tables o index x s text_s is.number is.laid zs x.alignment flag meant piece.final piece.stays none_inside whole bytes_are first ys
              ≡ line_of p starts at sizes f piece.t piece.tables piece.final piece.stays first ys
          lined_same [] = refl
          lined_same (z ∷ ys) =
              ap (λ l. if has_row z.located then placed_at p starts at sizes f piece.t piece.tables piece.final piece.stays first z ∷ l else l) (lined_same ys)

    makes_from : (index : ℕ) (sss : List SourceSection) (xs : List Section) → AreSectionsOf (tables ss) is.laid is.number o.symbols index sss xs
        → ((j : ℕ) → slice_get sections (index + j) ≡ slice_get sss j) → AllByRecursion (Makes p starts at sizes os text) (inputs_from goes_to_text f o index xs)
    makes_from index [] [] hs at_s = tt
    makes_from index [] (x ∷ xs) hs at_s = absurd hs
    makes_from index (s ∷ sss) [] hs at_s = absurd hs
    makes_from index (s ∷ sss) (x ∷ xs) (hx, hs) at_s =
        let here_s : slice_get sections index ≡ Some s = ap (slice_get sections) (let e : index ≡ index + 0 = omega arith in e) ∙ at_s 0 in
        go (goes_to_text x) refl here_s (makes_from (suc index) sss xs hs (λ j. ap (slice_get sections) (let e : suc index + j ≡ index + suc j = omega arith in e) ∙ at_s (suc j)))
      where
        go : (b : Bool) → goes_to_text x ≡ b → slice_get sections index ≡ Some s → AllByRecursion (Makes p starts at sizes os text) (inputs_from goes_to_text f o (suc index) xs)
            → AllByRecursion (Makes p starts at sizes os text) (if b then input index x ∷ inputs_from goes_to_text f o (suc index) xs else inputs_from goes_to_text f o (suc index) xs)
        go false e here_s ih = ih
        go true e here_s ih =
            let flags : goes_to_text x ≡ source_text s = ap (λ b. b && x.executable) hx.loaded ∙ ap (λ b. s.loaded && b) hx.executable in
            (make_one index s x hx here_s (sym flags ∙ e), ih)

    file_makes : AllByRecursion (Makes p starts at sizes os text) (inputs_from goes_to_text f o 0 o.sections)
    file_makes =
        makes_from 0 sections o.sections (sections_same (tables ss) is.laid (all_uncut ss o is) is.number o.symbols 0 sections o.sections is.sections)
        (λ j. ap (slice_get sections) (let e : 0 + j ≡ j = omega arith in e))

  makes : (f : ℕ) (ts : List (List Statement)) (vs : List Object) (q : AreKept ts vs) → AreHere f ts vs q → AllByRecursion (Makes p starts at sizes os text) (inputs_of goes_to_text f vs)
  makes f [] [] q a = tt
  makes f [] (v ∷ vs) q a = absurd q
  makes f (ss ∷ ts) [] q a = absurd q
  makes f (ss ∷ ts) (v ∷ vs) (is, q) (a, as') =
      each_append (Makes p starts at sizes os text) (inputs_from goes_to_text f v 0 v.sections) (inputs_of goes_to_text (suc f) vs) (file_makes f ss v is a) (makes (suc f) ts vs q as')

  pub sites_equal : line.sites_of sources l.map ≡ sites_of os
  sites_equal = sites_same p starts at sizes os text 0 (inputs goes_to_text os) bs pieces_are (makes 1 sources os h all_here)

-- ---- the whole

module _ (sources : List (List Statement)) (os : List Object) (bounds : Ground) (gc : Bool) (l : Linked) (h : AreKept sources os) (masks : AreMasked l.map.drops 1 sources os h)
    (collected : AreDrops gc (graph_of sources) l.map.drops) (kept : List ℕ) (greatest : IsGreatestClosed (sites_of os) kept)
    (link : IsLinkOf (shortened kept os) bounds l) where
  abbrev sizes : ℕ → ℕ → Sizes
  sizes = sizes_by os kept

  fit_all : (file : ℕ) (ts : List (List Statement)) (vs : List Object) (q : AreKept ts vs) → 1 ≤ file → AreAt os file vs → AreFitting sizes file ts vs q
  fit_all file [] [] q low e = tt
  fit_all file [] (v ∷ vs) q low e = absurd q
  fit_all file (ss ∷ ts) [] q low e = absurd q
  fit_all file (ss ∷ ts) (v ∷ vs) (is, q) low (e, es) = (fitting os sources h kept greatest.closed.family.offered file ss v is low e, fit_all (suc file) ts vs q (omega (arith, low)) es)

  fits : AreFitting sizes 1 sources os h
  fits = fit_all 1 sources os h (omega arith) (all_at os)

  abbrev k : AreAssembled sources (shortened kept os)
  k = cut_all sizes 1 sources os h fits

  c : AreCut sizes 1 sources os h (shortened kept os) k
  c = are_cut sizes 1 sources os h fits

  same : line.sites_of sources l.map ≡ sites_of os
  same = sites_equal sources os bounds l h masks (shortened kept os) k sizes c link

  by_line : (is : List InputSection) → AllByRecursion (λ (i : InputSection). (n : ℕ) → sizes i.file i.index n ≡ size_at (sites_of os) kept (0 + base_in (inputs goes_to_text os) i.file i.index + n)) is
  by_line [] = tt
  by_line (i ∷ is) = ((λ n. ap (size_at (sites_of os) kept) (let w = base_in (inputs goes_to_text os) i.file i.index in let e : w + n ≡ 0 + w + n = omega arith in e)), by_line is)

  bytes : HaveBytes (size_at (sites_of os) kept) (text_of sources l.map)
  bytes =
      bytes_same (size_at (sites_of os) kept) (size_at (sites_of os) kept) (size_same (sites_of os) kept) (text_of sources l.map)
      (relaxed.bytes_of_calls sources os bounds l h masks (shortened kept os) k sizes c link (size_at (sites_of os) kept) (by_line (inputs goes_to_text os)))

  pub shortens : IsLinked sources bounds.text true gc l
  shortens =
      relaxed.joined sources os bounds l h masks (shortened kept os) k sizes c link true gc collected
      (kept, subst (λ ss. IsGreatestClosed ss kept) (sym same) greatest, subst (λ ss. HaveBytes (size_at ss kept) (text_of sources l.map)) (sym same) bytes)

-- of objects without the sections that collection dropped
pub kept_link : (sources : List (List Statement)) (os : List Object) (bounds : Ground) (relax gc : Bool) (l : Linked) (h : AreKept sources os) → AreMasked l.map.drops 1 sources os h
    → AreDrops gc (graph_of sources) l.map.drops → (left : List Object) → Relaxes relax os left → IsLinkOf left bounds l → IsLinked sources bounds.text relax gc l
kept_link sources os bounds false gc l h masks collected left same link =
    relaxed.unrelaxed sources os bounds gc l h masks collected (subst (λ us. IsLinkOf us bounds l) same link)
kept_link sources os bounds true gc l h masks collected left (kept, greatest, same) link =
    shortens sources os bounds gc l h masks collected kept greatest (subst (λ us. IsLinkOf us bounds l) same link)
