-- What a family keeps of the calls of sources: each call has a form of its size.

use Rattle.std.proofs.Common.{◌≡◌, ℕ, suc, ◌+◌, ◌-◌, ◌≤◌, ◌<◌, Bool, true, false, List, [], ◌∷◌, ◌++◌, length, length-append, map, refl, sym, ap, ◌∙◌, subst, arith, Some, inl, inr}
use Rattle.std.proofs.lemmas.List.{append_assoc, append-nil}
use Rattle.std.proofs.lemmas.Bool.{and_parts, eqb-true}
use Rattle.std.specs.Prelude.{◌&&◌, ◌||◌, ◌==◌, IsTrue, nat_le, if◌then◌else◌, filter, flat_map, slice_index}
use Rattle.std.specs.List.{AllByRecursion, slice_get, list_any}
use Rattle.rv_list_laws.proofs.FilterLemmas.{each_filter}
use Rattle.rv_list_laws.proofs.EachLemmas.{each_append}
use Rattle.rv_size_laws.specs.Sites.{padding_site, size_at}
use Rattle.rv_statement_laws.specs.Statement.{StatementKind, Label, Numbered, Instruction, Directs, Statement}
use Rattle.rv_unit_laws.specs.Sections.{Section as SourceSection, goes_to_text as source_text}
use Rattle.rv_unit_laws.specs.Tables.{Tables, tables}
use Rattle.rv_size_laws.specs.declared.site.Site.{Site as Spot}
use Rattle.rv_size_laws.specs.declared.site.SiteKind.{SiteKind}
use Rattle.rv_size_laws.specs.declared.site.SiteKind.TheVariants as spots
use Rattle.rv_size_laws.specs.Calls.{Offers, site_at as spot_at, is_call as is_call_spot}
use Rattle.rv_source_laws.specs.Sized.{is_call_mnemonic}
use Rattle.rv_source_laws.specs.Shortened.{is_call_statement, link_register}
use Rattle.rv_object_laws.specs.Object.{Relocation, Section, Object, stored, size_of}
use Rattle.rv_object_laws.specs.Valid.{held}
use Rattle.rv_link_laws.specs.CallSites as objects
use Rattle.rv_link_laws.specs.CallSites.{link_register as linked_by, is_compressible, base_in, start_padding, inserted_change, in_order, changes, may_change, site_of, sites_from, sites_of}
use Rattle.rv_link_laws.specs.Inputs.{InputSection, goes_to_text, inputs_from, inputs_of, inputs, begins_at}
use Rattle.rv_link_laws.specs.Moves.{full_padding, has_padding, alignment_of}
use Rattle.rv_link_laws.specs.Names.{object_at}
use Rattle.rv_link_laws.specs.Shortened.{sizes_by}
use Rattle.rv_assemble_laws.specs.LaidStatements.{LaidStatement, expression_value, laid_part, part_bytes, laid_in, end_of, HasSize}
use Rattle.rv_assemble_laws.specs.IsObjectOf.{Numbering, relocations_from}
use Rattle.rv_assemble_laws.proofs.FilledLemmas.{bytes_append}
use Rattle.rv_sources_link_theorems.proofs.sections.KeptLemmas.{IsKept, AreKept}
use Rattle.rv_sources_link_theorems.proofs.sections.MaskedLemmas.{source_sections}
use Rattle.rv_sources_link_theorems.proofs.sections.AssembledLemmas.{Tile, parts, parts_of, assembled_templates, IsSectionOf, AreSectionsOf}
use Rattle.rv_sources_link_theorems.proofs.calls.CalledLemmas.{IsForm}
use Rattle.rv_sources_link_theorems.proofs.calls.CutObjectsLemmas.{Fitting}
use Rattle.rv_sources_link_theorems.proofs.calls.CutsLemmas.{link_of}
use Rattle.rv_sources_link_theorems.proofs.calls.CutSectionsLemmas.{has_words, links, stored_is}
use Rattle.rv_sources_link_theorems.proofs.calls.LongCallsLemmas as long
use Rattle.rv_sources_link_theorems.proofs.calls.LongCallsLemmas.{IsLongCall, long_call}
use Rattle.rv_sources_link_theorems.proofs.moves.PiecesOfLemmas.{size_is}
use Rattle.rv_sources_link_theorems.proofs.fields.RangesLemmas.{InRange, in_range}
use Rattle.rv_sources_link_theorems.proofs.statements.SettledLemmas.{of_sections, IsLaidIn, laid_are_in}
use Rattle.rv_sources_link_theorems.proofs.moves.ShrinkingLemmas.{AreAt, all_at}
use Rattle.rv_sources_link_theorems.proofs.fields.TargetsLemmas.{section_of, all_settled, present_of}
use Rattle.rv_sources_link_theorems.proofs.calls.UncutLemmas.{IsUncut, all_uncut, sections_same}
use Rattle.rv_sources_link_theorems.proofs.moves.WalkLemmas.{relocations_join}
use Rattle.rv_sources_link_theorems.proofs.fields.WholesLemmas.{IsSound, sound}

-- ---- families

-- what a site allows a call of this offset to be
abbrev IsSmallest : SiteKind → Type 0
IsSmallest (spots.Call call) = IsTrue call.compressed
IsSmallest (spots.Padding padding) = ⊥

abbrev Agrees : (link o : ℕ) → Spot → Type 0
Agrees link o s = is_call_spot s.kind ≡ true → s.offset ≡ o → IsSmallest s.kind → link ≡ 0

kept_form : (link k : ℕ) (kind : SiteKind) → is_call_spot kind ≡ true → Offers kind k → (IsSmallest kind → link ≡ 0) → IsForm link k
kept_form link k (spots.Call call) e (inl eight) h = inl eight
kept_form link k (spots.Call call) e (inr (inl four)) h = inr (inl four)
kept_form link k (spots.Call call) e (inr (inr (two, small))) h = inr (inr (two, h small))
kept_form link k (spots.Padding padding) e o h = absurd (cc)

size_form : (link o : ℕ) (ss : List Spot) (kept : List ℕ) → ((i : ℕ) → Offers (spot_at ss i).kind (slice_index kept i)) → AllByRecursion (Agrees link o) ss → IsForm link (size_at ss kept o)
size_form link o [] kept offered h = inl refl
size_form link o (s ∷ ss) [] offered h = inl refl
size_form link o (s ∷ ss) (k ∷ kept) offered (h, hs) = go (is_call_spot s.kind) (s.offset == o) refl refl (size_form link o ss kept (λ i. offered (suc i)) hs)
  where
    go : (a b : Bool) → is_call_spot s.kind ≡ a → (s.offset == o) ≡ b → IsForm link (size_at ss kept o) → IsForm link (if a && b then k else size_at ss kept o)
    go true true e f ih = kept_form link k s.kind e (offered 0) (h e (eqb-true s.offset o f))
    go true false e f ih = ih
    go false b e f ih = ih

-- ---- changes are relocations of the section

module _ (P : Relocation → Type 0) where
  inserted_all : (r : Relocation) (rs : List Relocation) → P r → AllByRecursion P rs → AllByRecursion P (inserted_change r rs)
  inserted_all r [] p h = (p, tt)
  inserted_all r (q ∷ qs) p (h, hs) = go (nat_le (r.place + held r) q.place) (inserted_all r qs p hs)
    where
      go : (b : Bool) → AllByRecursion P (inserted_change r qs) → AllByRecursion P (if b then r ∷ q ∷ qs else q ∷ inserted_change r qs)
      go true ih = (p, (h, hs))
      go false ih = (h, ih)

  ordered_all : (rs : List Relocation) → AllByRecursion P rs → AllByRecursion P (in_order rs)
  ordered_all [] h = tt
  ordered_all (r ∷ rs) (h, hs) = inserted_all r (in_order rs) h (ordered_all rs hs)

-- ---- the sites of a line

module _ (os : List Object) where
  -- what is owed to the sections of text: their relocations lie in them
  pub record IsText (i : InputSection) : Type 0 where
    pub there : slice_get (object_at os i.file).sections i.index ≡ Some i.section
    pub low : AllByRecursion (λ (r : Relocation). r.place < size_of i.section.contents) i.section.relocations

  offset_is : (i : InputSection) (first : ℕ) (r : Relocation) → (site_of os i first r).offset ≡ first + r.place
  offset_is i first r = go (has_padding r)
    where
      go : (b : Bool) → (if b then padding_site (first + r.place) (full_padding r) (alignment_of r) else objects.call_site os i (first + r.place) r).offset ≡ first + r.place
      go true = refl
      go false = refl

  -- the sites of one section
  module _ (link o : ℕ) where
    -- those before an offset, and those behind it
    below : (i : InputSection) (first : ℕ) (rs : List Relocation) → first + size_of i.section.contents ≤ o → AllByRecursion (λ (r : Relocation). r.place < size_of i.section.contents) rs
        → AllByRecursion (Agrees link o) (map (site_of os i first) rs)
    below i first [] low h = tt
    below i first (r ∷ rs) low (h, hs) =
        let n = size_of i.section.contents in
        ((λ e f g. (let here = offset_is i first r in let s = (site_of os i first r).offset in let a : s ≡ first + r.place = here in let b : s ≡ o = f in let c : first + n ≤ o = low in let d : r.place < n = h in absurd (omega (arith, a, b, c, d)))), below i first rs low hs)

    own : (i : InputSection) (first place : ℕ) (rs : List Relocation) → o ≡ first + place → (linked_by (stored i.section.contents) place ≡ link) → AllByRecursion (Agrees link o) (map (site_of os i first) rs)
    own i first place [] at linked = tt
    own i first place (r ∷ rs) at linked = (one, own i first place rs at linked)
      where
        at_place : (site_of os i first r).offset ≡ o → r.place ≡ place
        at_place e =
            let here = offset_is i first r in
            let s = (site_of os i first r).offset in
            let a : s ≡ first + r.place = here in
            let b : s ≡ o = e in omega (arith, a, b, at)

        by : (b : Bool) → is_call_spot (if b then padding_site (first + r.place) (full_padding r) (alignment_of r) else objects.call_site os i (first + r.place) r).kind ≡ true
            → r.place ≡ place → IsSmallest (if b then padding_site (first + r.place) (full_padding r) (alignment_of r) else objects.call_site os i (first + r.place) r).kind → link ≡ 0
        by true e f g = absurd (cc)
        by false e f g =
            sym linked ∙ ap (linked_by (stored i.section.contents)) (sym f) ∙ eqb-true (linked_by (stored i.section.contents) r.place) 0 (and_parts i.object.rvc (linked_by (stored i.section.contents) r.place == 0) (true_is (is_compressible i r) g)).1
          where
            true_is : (b : Bool) → IsTrue b → b ≡ true
            true_is b h = h

        one : Agrees link o (site_of os i first r)
        one e f g = by (has_padding r) e (at_place f) g

    -- behind an offset
    behind : (off : ℕ) (is : List InputSection) → o < off → AllByRecursion (Agrees link o) (sites_from os off is)
    behind off is low = go off is low
      where
        rels_behind : (i : InputSection) (first : ℕ) (rs : List Relocation) → o < first → AllByRecursion (Agrees link o) (map (site_of os i first) rs)
        rels_behind i first [] low = tt
        rels_behind i first (r ∷ rs) low =
            ((λ e f g. (let here = offset_is i first r in let s = (site_of os i first r).offset in let a : s ≡ first + r.place = here in let b : s ≡ o = f in absurd (omega (arith, a, b, low)))), rels_behind i first rs low)

        go : (off : ℕ) (is : List InputSection) → o < off → AllByRecursion (Agrees link o) (sites_from os off is)
        go off [] low = tt
        go off (i ∷ is) low =
            let first = off + start_padding i.section in
            let a = start_padding i.section in
            let n = size_of i.section.contents in (
              (λ e. absurd (cc)),
              each_append (Agrees link o) (map (site_of os i first) (changes os i)) (sites_from os (first + n) is)
                  (rels_behind i first (changes os i) (let g : o < off + a = omega (arith, low) in g)) (go (first + n) is (let g : o < off + a + n = omega (arith, low) in g)),
            )

  -- all of them
  agree : (link f j place : ℕ) (x : Section) → slice_get (object_at os f).sections j ≡ Some x → place < size_of x.contents → linked_by (stored x.contents) place ≡ link
      → (off : ℕ) (is : List InputSection) → AllByRecursion IsText is → list_any (λ (i : InputSection). (i.file == f) && (i.index == j)) is ≡ true
      → AllByRecursion (Agrees link (off + base_in is f j + place)) (sites_from os off is)
  agree link f j place x there low linked off [] h some = absurd (cc)
  agree link f j place x there low linked off (i ∷ is) (h, hs) some =
      go ((i.file == f) && (i.index == j)) refl some (λ more. agree link f j place x there low linked (off + start_padding i.section + size_of i.section.contents) is hs more)
    where
      a : ℕ
      a = start_padding i.section

      n : ℕ
      n = size_of i.section.contents

      w : ℕ
      w = base_in is f j

      first : ℕ
      first = off + start_padding i.section

      start_one : (o : ℕ) → Agrees link o (padding_site off (start_padding i.section) (begins_at i.section))
      start_one o e = absurd (cc)

      low_changes : AllByRecursion (λ (r : Relocation). r.place < size_of i.section.contents) (changes os i)
      low_changes = ordered_all (λ (r : Relocation). r.place < size_of i.section.contents) (filter (may_change os i) i.section.relocations)
          (each_filter (λ (r : Relocation). r.place < size_of i.section.contents) (may_change os i) i.section.relocations h.low)

      go : (b : Bool) → ((i.file == f) && (i.index == j)) ≡ b → (b || list_any (λ (i : InputSection). (i.file == f) && (i.index == j)) is) ≡ true
          → (list_any (λ (i : InputSection). (i.file == f) && (i.index == j)) is ≡ true → AllByRecursion (Agrees link (off + start_padding i.section + size_of i.section.contents + base_in is f j + place)) (sites_from os (off + start_padding i.section + size_of i.section.contents) is))
          → AllByRecursion (Agrees link (off + (start_padding i.section + (if (i.file == f) && (i.index == j) then 0 else size_of i.section.contents + base_in is f j)) + place)) (sites_from os off (i ∷ is))
      go true e some next =
          let both = and_parts (i.file == f) (i.index == j) e in
          let same_section : Some i.section ≡ Some x = sym h.there ∙ ap (λ k. slice_get (object_at os k).sections i.index) (eqb-true i.file f both.0) ∙ ap (slice_get (object_at os f).sections) (eqb-true i.index j both.1) ∙ there in
          let same : i.section ≡ x = cc in
          subst (λ o. AllByRecursion (Agrees link o) (sites_from os off (i ∷ is)))
          ((let g : off + a + place ≡ off + (a + 0) + place = omega arith in g) ∙ ap (λ b. off + (a + (if b then 0 else n + w)) + place) (sym e)) (
            start_one (off + a + place),
            each_append (Agrees link (off + a + place)) (map (site_of os i first) (changes os i)) (sites_from os (first + n) is)
                (own link (off + a + place) i first place (changes os i) refl (ap (λ (y : Section). linked_by (stored y.contents) place) same ∙ linked))
                (behind link (off + a + place) (first + n) is (let least : place < n = subst (λ (y : Section). place < size_of y.contents) (sym same) low in let g : off + a + place < off + a + n = omega (arith, least) in g)),
          )
      go false e some next =
          subst (λ o. AllByRecursion (Agrees link o) (sites_from os off (i ∷ is)))
          ((let g : off + a + n + w + place ≡ off + (a + (n + w)) + place = omega arith in g) ∙ ap (λ b. off + (a + (if b then 0 else n + w)) + place) (sym e)) (
            start_one (off + a + n + w + place),
            each_append (Agrees link (off + a + n + w + place)) (map (site_of os i first) (changes os i)) (sites_from os (first + n) is)
                (below link (off + a + n + w + place) i first (changes os i) (let g : off + a + n ≤ off + a + n + w + place = omega arith in g) low_changes) (next some),
          )

-- ---- the sections of text of a source's object

module _ (t : Tables) (number : Numbering) (j : ℕ) (s : SourceSection) (code : s.executable ≡ true) (multiple : ℕ) where
  -- relocations lie before the end
  place_low : (q n : ℕ) (rs : List Relocation) → AllByRecursion (InRange q n) rs → (m : ℕ) → q + n ≤ m → AllByRecursion (λ (r : Relocation). r.place < m) rs
  place_low q n [] h m l = tt
  place_low q n (r ∷ rs) ((a, b, c), hs) m l = (omega (arith, b, l), place_low q n rs hs m l)

  end_high : (q : ℕ) (zs : List LaidStatement) → q ≤ end_of q zs
  end_high q [] = omega arith
  end_high q (z ∷ zs) = let h = end_high (q + z.bytes) zs in let e = end_of (q + z.bytes) zs in let k : q + z.bytes ≤ e = h in let g : q ≤ e = omega (arith, k) in g

  places_low : (q : ℕ) (zs : List LaidStatement) → Tile t q zs → AllByRecursion (IsLaidIn j s) zs
      → AllByRecursion (λ z. z.located.placed ≡ true → HasSize (expression_value t z.located) z multiple z.located.kind) zs
      → AllByRecursion (λ (r : Relocation). r.place < end_of q zs) (relocations_from number q (parts t zs))
  places_low q [] tile i h = tt
  places_low q (z ∷ zs) (off, bytes, tile) (i, is) (h, hs) =
      let own = relocations_from number q (parts_of t z) in
      subst (λ l. AllByRecursion (λ (r : Relocation). r.place < end_of (q + z.bytes) zs) l)
      (ap (λ n. own ++ relocations_from number (q + n) (parts t zs)) bytes ∙ sym (relocations_join t number q (parts_of t z) (parts t zs)))
      (each_append (λ (r : Relocation). r.place < end_of (q + z.bytes) zs) own (relocations_from number (q + z.bytes) (parts t zs))
      (place_low q z.bytes own (subst (λ n. AllByRecursion (InRange n z.bytes) (relocations_from number n (parts_of t z))) off (in_range t number j s code multiple z i bytes h)) (end_of (q + z.bytes) zs) (end_high (q + z.bytes) zs))
      (places_low (q + z.bytes) zs tile is hs))

  -- each call links what its words say, and lies before the end
  abbrev IsLinking : List ℕ → ℕ → LaidStatement → Type 0
  IsLinking bytes end z = is_call_statement z.located.kind ≡ true → (linked_by bytes z.offset ≡ link_of z.located.kind) × (z.offset < end)

  linking : (bytes front : List ℕ) (q : ℕ) (zs : List LaidStatement) → q ≡ length front → bytes ≡ front ++ flat_map part_bytes (parts t zs) → Tile t q zs → AllByRecursion (IsLaidIn j s) zs → AllByRecursion IsUncut zs
      → AllByRecursion (λ z. IsSound t z.located) zs → AllByRecursion (λ z. z.located.placed ≡ true → HasSize (expression_value t z.located) z multiple z.located.kind) zs → AllByRecursion (IsLinking bytes (end_of q zs)) zs
  linking bytes front q [] begins whole tile i u k h = tt
  linking bytes front q (z ∷ zs) begins whole (off, size, tile) (i, is) (u, us) (k, ks) (h, hs) =
      let own = flat_map part_bytes (parts_of t z) in
      let rest = flat_map part_bytes (parts t zs) in
      let more : length (front ++ own) ≡ length front + length own = length-append front own in (
        by z.located.kind refl,
        linking bytes (front ++ own) (q + z.bytes) zs (omega (arith, begins, size, more))
            (whole ∙ ap (λ l. front ++ l) (bytes_append (parts_of t z) (parts t zs)) ∙ sym (append_assoc front own rest)) tile is us ks hs,
      )
    where
      by : (kind : StatementKind) → z.located.kind ≡ kind → IsLinking bytes (end_of (q + z.bytes) zs) z
      by (Instruction m ops) e c =
          let call : is_call_mnemonic m ≡ true = sym (ap is_call_statement e) ∙ c in
          let size_here = subst (HasSize (expression_value t z.located) z multiple) e (h (i.instructed m ops e)) in
          let w : IsLongCall t z m ops = long_call t z multiple m ops e call size_here (u c) k in
          let rest = flat_map part_bytes (parts t zs) in
          let own_is : flat_map part_bytes (parts_of t z) ≡ w.first ++ w.second =
          ap (λ k. flat_map part_bytes (map (laid_part z.located.ordinal) (assembled_templates t z k))) e
          ∙ ap (λ l. flat_map part_bytes (map (laid_part z.located.ordinal) l)) (long.was t z multiple m ops e call w) ∙ append-nil (w.first ++ w.second) in
          let bytes_as : bytes ≡ front ++ ((w.first ++ w.second) ++ rest) =
          whole ∙ ap (λ l. front ++ l) (bytes_append (parts_of t z) (parts t zs)) ∙ ap (λ l. front ++ (l ++ rest)) own_is in
          let eight = w.bytes in
          let end = end_of (q + z.bytes) zs in
          let high : q + z.bytes ≤ end = end_high (q + z.bytes) zs in (
            ap (λ l. linked_by l z.offset) bytes_as ∙ ap (linked_by (front ++ ((w.first ++ w.second) ++ rest))) (off ∙ begins)
                ∙ links (front ++ ((w.first ++ w.second) ++ rest)) (length front) (link_register m ops) w.goes.by (has_words t z m ops w front rest) w.link_low w.by_low ∙ ap link_of (sym e),
            (let g : z.offset < end = omega (arith, off, eight, high) in g),
          )
      by (Label name) e c = let f : false ≡ true = sym (ap is_call_statement e) ∙ c in absurd (cc)
      by (Numbered digits) e c = let f : false ≡ true = sym (ap is_call_statement e) ∙ c in absurd (cc)
      by (Directs d) e c = let f : false ≡ true = sym (ap is_call_statement e) ∙ c in absurd (cc)

-- ---- all of them

module _ (os : List Object) where
  module _ (file : ℕ) (ss : List Statement) (o : Object) (is : IsKept ss o) (here : object_at os file ≡ o) where
    texts_from : (index : ℕ) (sss : List SourceSection) (xs : List Section) → AreSectionsOf (tables ss) is.laid is.number o.symbols index sss xs
        → ((j : ℕ) → slice_get (source_sections is.dropped ss) (index + j) ≡ slice_get sss j) → ((j : ℕ) → slice_get o.sections (index + j) ≡ slice_get xs j)
        → AllByRecursion (IsText os) (inputs_from goes_to_text file o index xs)
    texts_from index [] [] h at_s at_x = tt
    texts_from index [] (x ∷ xs) h at_s at_x = absurd h
    texts_from index (s ∷ sss) [] h at_s at_x = absurd h
    texts_from index (s ∷ sss) (x ∷ xs) (h, hs) at_s at_x =
        let here_s : slice_get (source_sections is.dropped ss) index ≡ Some s = ap (slice_get (source_sections is.dropped ss)) (let e : index ≡ index + 0 = omega arith in e) ∙ at_s 0 in
        let there : slice_get o.sections index ≡ Some x = ap (slice_get o.sections) (let e : index ≡ index + 0 = omega arith in e) ∙ at_x 0 in
        let next : (j : ℕ) → suc index + j ≡ index + suc j = λ j. omega arith in
        go (goes_to_text x) refl here_s there (texts_from (suc index) sss xs hs (λ j. ap (slice_get (source_sections is.dropped ss)) (next j) ∙ at_s (suc j)) (λ j. ap (slice_get o.sections) (next j) ∙ at_x (suc j)))
      where
        input : InputSection
        input = record { file = file; object = o; index = index; section = x }

        go : (b : Bool) → goes_to_text x ≡ b → slice_get (source_sections is.dropped ss) index ≡ Some s → slice_get o.sections index ≡ Some x → AllByRecursion (IsText os) (inputs_from goes_to_text file o (suc index) xs)
            → AllByRecursion (IsText os) (if b then input ∷ inputs_from goes_to_text file o (suc index) xs else inputs_from goes_to_text file o (suc index) xs)
        go false text at_s there ih = ih
        go true text at_s there ih =
            let flags : goes_to_text x ≡ source_text s = ap (λ b. b && x.executable) h.loaded ∙ ap (λ b. s.loaded && b) h.executable in
            let both = and_parts s.loaded s.executable (sym flags ∙ text) in
            let zs = laid_in index is.laid in
            let rels : x.relocations ≡ relocations_from is.number 0 (parts (tables ss) zs) = h.relocations ∙ ap (λ b. if b then relocations_from is.number 0 (parts (tables ss) zs) else []) both.0 in
            let size = size_is (tables ss) is.laid is.number o index s zs x h in (
              record {
                there = ap (λ (u : Object). slice_get u.sections index) here ∙ there;
                low = subst (λ n. AllByRecursion (λ (r : Relocation). r.place < n) x.relocations) (sym size)
                    (subst (λ l. AllByRecursion (λ (r : Relocation). r.place < end_of 0 zs) l) (sym rels)
                    (places_low (tables ss) is.number index s both.1 x.alignment 0 zs h.tile (laid_are_in (source_sections is.dropped ss) index s is.laid at_s (all_settled ss o is)) h.sizes));
              },
              ih,
            )

    file_texts : AllByRecursion (IsText os) (inputs_from goes_to_text file o 0 o.sections)
    file_texts =
        texts_from 0 (source_sections is.dropped ss) o.sections (sections_same (tables ss) is.laid (all_uncut ss o is) is.number o.symbols 0 (source_sections is.dropped ss) o.sections is.sections)
        (λ j. ap (slice_get (source_sections is.dropped ss)) (let e : 0 + j ≡ j = omega arith in e)) (λ j. ap (slice_get o.sections) (let e : 0 + j ≡ j = omega arith in e))

  texts : (file : ℕ) (sources : List (List Statement)) (us : List Object) → AreKept sources us → AreAt os file us → AllByRecursion (IsText os) (inputs_of goes_to_text file us)
  texts file [] [] h e = tt
  texts file [] (o ∷ us) h e = absurd h
  texts file (ss ∷ sources) [] h e = absurd h
  texts file (ss ∷ sources) (o ∷ us) (is, h) (e, es) =
      each_append (IsText os) (inputs_from goes_to_text file o 0 o.sections) (inputs_of goes_to_text (suc file) us) (file_texts file ss o is e) (texts (suc file) sources us h es)

  module _ (sources : List (List Statement)) (h : AreKept sources os) (kept : List ℕ) (offered : (i : ℕ) → Offers (spot_at (sites_of os) i).kind (slice_index kept i)) where
    pub fitting : (file : ℕ) (ss : List Statement) (o : Object) (is : IsKept ss o) → 1 ≤ file → object_at os file ≡ o → AllByRecursion (Fitting (sizes_by os kept file)) is.laid
    fitting file ss o is least here = of_sections sections (Fitting (sizes_by os kept file)) is.laid (all_settled ss o is) by
      where
        sections : List SourceSection
        sections = source_sections is.dropped ss

        t : Tables
        t = tables ss

        by : (j : ℕ) (s : SourceSection) → slice_get sections j ≡ Some s → AllByRecursion (Fitting (sizes_by os kept file)) (laid_in j is.laid)
        by j s at = go (source_text s) refl
          where
            found : (x : Section) × (slice_get o.sections j ≡ Some x) × IsSectionOf (tables ss) is.laid is.number o.symbols j s (laid_in j is.laid) x
            found = section_of ss o is j s at

            zs : List LaidStatement
            zs = laid_in j is.laid

            inside : AllByRecursion (IsLaidIn j s) (laid_in j is.laid)
            inside = laid_are_in sections j s is.laid at (all_settled ss o is)

            aside_all : (ys : List LaidStatement) → AllByRecursion (IsLaidIn j s) ys → source_text s ≡ false → AllByRecursion (Fitting (sizes_by os kept file)) ys
            aside_all [] i e = tt
            aside_all (y ∷ ys) (i, is') e = ((λ text c. let f : true ≡ false = sym text ∙ ap source_text i.home ∙ e in absurd (cc)), aside_all ys is' e)

            text_all : (x : Section) → slice_get o.sections j ≡ Some x → goes_to_text x ≡ true → (ys : List LaidStatement) → AllByRecursion (IsLaidIn j s) ys
                → AllByRecursion (λ z. is_call_statement z.located.kind ≡ true → (linked_by (stored x.contents) z.offset ≡ link_of z.located.kind) × (z.offset < size_of x.contents)) ys → AllByRecursion (Fitting (sizes_by os kept file)) ys
            text_all x there text [] i k = tt
            text_all x there text (y ∷ ys) (i, is') (k, ks) = (
              (λ t c.
                  let (linked, low) = k c in
                  subst (λ n. IsForm (link_of y.located.kind) (size_at (sites_of os) kept (base_in (inputs goes_to_text os) file n + y.offset))) (sym i.stands)
                  (subst (λ o. IsForm (link_of y.located.kind) (size_at (sites_of os) kept o)) (let w = base_in (inputs goes_to_text os) file j in let e : 0 + w + y.offset ≡ w + y.offset = omega arith in e)
                  (size_form (link_of y.located.kind) (0 + base_in (inputs goes_to_text os) file j + y.offset) (sites_of os) kept offered
                  (agree os (link_of y.located.kind) file j y.offset x (ap (λ (u : Object). slice_get u.sections j) here ∙ there) low linked 0 (inputs goes_to_text os) (texts 1 sources os h (all_at os))
                  (ap (λ m. list_any (λ (q : InputSection). (q.file == m) && (q.index == j)) (inputs goes_to_text os)) (let e : file ≡ 1 + (file - 1) = omega (arith, least) in e)
                  ∙ present_of 1 (file - 1) j os x (ap (λ (u : Object). slice_get u.sections j) here ∙ there) text))))),
              text_all x there text ys is' ks,
            )

            go : (b : Bool) → source_text s ≡ b → AllByRecursion (Fitting (sizes_by os kept file)) (laid_in j is.laid)
            go false e = aside_all (laid_in j is.laid) inside e
            go true e =
                let (x, there, k) = found in
                let text : goes_to_text x ≡ true = ap (λ b. b && x.executable) k.loaded ∙ ap (λ b. s.loaded && b) k.executable ∙ e in
                let linked = linking t is.number j s (and_parts s.loaded s.executable e).1 x.alignment (stored x.contents) [] 0 (laid_in j is.laid) refl
                (stored_is t is.laid is.number o.symbols j s x (laid_in j is.laid) k e) k.tile inside
                (each_filter IsUncut (λ z. z.located.section == j) is.laid (all_uncut ss o is)) (each_filter (λ z. IsSound t z.located) (λ z. z.located.section == j) is.laid (sound ss is.laid is.dropped is.good is.located)) k.sizes in
                text_all x there text (laid_in j is.laid) inside
                (subst (λ n. AllByRecursion (λ z. is_call_statement z.located.kind ≡ true → (linked_by (stored x.contents) z.offset ≡ link_of z.located.kind) × (z.offset < n)) (laid_in j is.laid)) (sym (size_is t is.laid is.number o j s (laid_in j is.laid) x k)) linked)
