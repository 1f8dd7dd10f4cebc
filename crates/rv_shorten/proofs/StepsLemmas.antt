-- The sites of a section, one after another.

use Rattle.std.proofs.Common.{◌≡◌, ℕ, ◌+◌, ◌-◌, ◌%◌, ◌^◌, ◌<◌, ◌≤◌, Bool, true, false, cond, ◌&&◌, nat_le, nat_lt, List, [], ◌∷◌, ◌++◌, length, map, drop, slice_index_or, pos, refl, sym, ap, subst, ◌∙◌, arith}
use Rattle.std.specs.Prelude.{◌==◌}
use Rattle.std.proofs.lemmas.List.{append_assoc, append-nil, map-append, drop_more}
use Rattle.std.proofs.lemmas.Bool.{le-leb, lt-ltb, eq-eqb, and_from}
use Rattle.rv_isa_laws.specs.Bytes.{little_endian}
use Rattle.rv_size_laws.specs.declared.site.Site.{Site}
use Rattle.rv_size_laws.specs.declared.site.SiteKind.TheVariants.{Call}
use Rattle.rv_object_laws.specs.Object.{Contents, Progbits, Note, Nobits, Section, size_of, stored}
use Rattle.rv_object_laws.specs.Valid.{fit_inside}
use Rattle.rv_link_laws.specs.Moves.{Move, kept}
use Rattle.rv_link_laws.specs.CallSites.{link_register}
use Rattle.rv_link_laws.specs.Shortened.{empty_jump, empty_jal, short_call, shortened_contents}
use Rattle.rv_shorten.specs.Cut.{Cut, cut_left, move_of, is_next, are_in_order}
use Rattle.rv_cut_laws.specs.Cutting.{are_cuts, AreCuts, cut_section, cut_sections}
use Rattle.rv_cut_laws.specs.Walk.{moves_of, passed, section_moves, object_moves}
use Rattle.rv_shorten.specs.SiteCuts.{cut_of, is_cut_site, cuts_of, gone_of}
use Rattle.rv_cut_laws.proofs.ShiftsLemmas.{first_cut, other_cuts}
use Rattle.rv_cut_laws.proofs.ShortLemmas.{none_in_zeros}

-- what is left of a call is 2 bytes or 4
short_same : (k link : ℕ) → short_call (cond (k == 2) 2 4) link ≡ short_call k link
short_same k link = by (k == 2)
  where
    by : (b : Bool) → cond (cond b 2 4 == 2) (little_endian 2 empty_jump) (little_endian 4 (empty_jal link)) ≡ cond b (little_endian 2 empty_jump) (little_endian 4 (empty_jal link))
    by true = refl
    by false = refl

part_left : (k : ℕ) → ◌≡◌ {A = ℕ} (cond (k == 2) 2 4) (cond (cond (k == 2) 2 4 == 2) 2 4)
part_left k = by (k == 2)
  where
    by : (b : Bool) → ◌≡◌ {A = ℕ} (cond b 2 4) (cond (cond b 2 4 == 2) 2 4)
    by true = refl
    by false = refl

abbrev move_at : (first : ℕ) → List ℕ → Site → ℕ → Move
move_at first bytes s k = record { place = s.offset - first; full = 8; text = short_call k (link_register bytes (s.offset - first)) }

same_move : (first gone : ℕ) (bytes : List ℕ) (s : Site) (k : ℕ) → move_of (cut_of (s.offset - first) gone bytes k) ≡ move_at first bytes s k
same_move first gone bytes s k = ap (λ t. record { place = s.offset - first; full = 8; text = t }) (short_same k (link_register bytes (s.offset - first)))

pub one_site : (first gone : ℕ) (bytes : List ℕ) (s : Site) (k : ℕ) (ss : List Site) (ks : List ℕ) (cs : List Cut) (whole : List Move)
    → map move_of cs ++ moves_of first bytes (s ∷ ss) (k ∷ ks) ≡ whole
    → map move_of (cs ++ cuts_of (s.offset - first) gone bytes s k) ++ moves_of first bytes ss ks ≡ whole
one_site first gone bytes s k ss ks cs whole h = by (is_cut_site s k) h
  where
    by : (b : Bool) → map move_of cs ++ cond b (move_at first bytes s k ∷ moves_of first bytes ss ks) (moves_of first bytes ss ks) ≡ whole
        → map move_of (cs ++ cond b (cut_of (s.offset - first) gone bytes k ∷ []) []) ++ moves_of first bytes ss ks ≡ whole
    by true so_far =
        ap (λ l. l ++ moves_of first bytes ss ks) (map-append move_of cs (cut_of (s.offset - first) gone bytes k ∷ []))
        ∙ append_assoc (map move_of cs) (move_of (cut_of (s.offset - first) gone bytes k) ∷ []) (moves_of first bytes ss ks)
        ∙ ap (λ m. map move_of cs ++ (m ∷ moves_of first bytes ss ks)) (same_move first gone bytes s k)
        ∙ so_far
    by false so_far = ap (λ l. map move_of l ++ moves_of first bytes ss ks) (append-nil cs) ∙ so_far

-- what is left stands behind the cuts so far
pub record Behind (size : ℕ) (ms : List Move) (gone : ℕ) (cs : List Cut) : Type 0 where
  pub stop : ℕ
  pub ahead : are_cuts stop size ms ≡ true
  pub low : gone ≤ stop
  pub order : (more : List Cut) → are_in_order stop gone more ≡ true → are_in_order 0 0 (cs ++ more) ≡ true

pub inside : (size first gone : ℕ) (bytes : List ℕ) (s : Site) (k : ℕ) (ss : List Site) (ks : List ℕ) (cs : List Cut) → Behind size (moves_of first bytes (s ∷ ss) (k ∷ ks)) gone cs
    → is_cut_site s k ≡ true → ((s.offset - first) + 8 ≤ size) × (gone ≤ s.offset - first)
inside size first gone bytes s k ss ks cs b is =
    let one = first_cut b.stop size (move_at first bytes s k) (moves_of first bytes ss ks) (sym (ap (λ t. are_cuts b.stop size (cond t (move_at first bytes s k ∷ moves_of first bytes ss ks) (moves_of first bytes ss ks))) is) ∙ b.ahead) in
    let low = b.low in
    (one.ends, omega (arith, one.from))

few_links : (bytes : List ℕ) (place : ℕ) → link_register bytes place < 32
few_links bytes place = omega arith

pub next_behind : (size first gone : ℕ) (bytes : List ℕ) (s : Site) (k : ℕ) (ss : List Site) (ks : List ℕ) (cs : List Cut) → size < 2 ^ 64 → Behind size (moves_of first bytes (s ∷ ss) (k ∷ ks)) gone cs
    → Behind size (moves_of first bytes ss ks) (gone + gone_of s k) (cs ++ cuts_of (s.offset - first) gone bytes s k)
next_behind size first gone bytes s k ss ks cs fits b = by (is_cut_site s k) b.ahead
  where
    c : Cut
    c = cut_of (s.offset - first) gone bytes k

    rest : List Move
    rest = moves_of first bytes ss ks

    by : (t : Bool) → are_cuts b.stop size (cond t (move_at first bytes s k ∷ rest) rest) ≡ true
        → Behind size rest (gone + cond t (8 - cond (k == 2) 2 4) 0) (cs ++ cond t (c ∷ []) [])
    by true h =
        let one = first_cut b.stop size (move_at first bytes s k) rest h in
        let low = b.low in
        let from = one.from in
        let end : c.place + 8 < 2 ^ 64 = omega (arith, one.ends) in
        let here : is_next b.stop gone c ≡ true =
        and_from (nat_le b.stop c.place) (nat_lt (c.place + 8) (2 ^ 64) && ((c.place % 2 == 0) && ((c.gone == gone) && (nat_lt c.detail 32 && ((c.full == 8) && (c.left == cut_left c)))))) (le-leb b.stop c.place from)
        (and_from (nat_lt (c.place + 8) (2 ^ 64)) ((c.place % 2 == 0) && ((c.gone == gone) && (nat_lt c.detail 32 && ((c.full == 8) && (c.left == cut_left c))))) (lt-ltb (c.place + 8) (2 ^ 64) end)
        (and_from (c.place % 2 == 0) ((c.gone == gone) && (nat_lt c.detail 32 && ((c.full == 8) && (c.left == cut_left c)))) (eq-eqb (c.place % 2) 0 one.even)
        (and_from (c.gone == gone) (nat_lt c.detail 32 && ((c.full == 8) && (c.left == cut_left c))) (eq-eqb gone gone refl)
        (and_from (nat_lt c.detail 32) (c.left == cut_left c) (lt-ltb c.detail 32 (few_links bytes (s.offset - first))) (eq-eqb c.left (cut_left c) (part_left k)))))) in
        record {
          stop = c.place + 8;
          ahead = other_cuts b.stop size (move_at first bytes s k) rest h;
          low = omega arith;
          order = λ more after. ap (are_in_order 0 0) (append_assoc cs (c ∷ []) more)
              ∙ b.order (c ∷ more) (and_from (is_next b.stop gone c) (are_in_order (c.place + 8) (gone + (8 - c.left)) more) here after);
        }
    by false h = record {
      stop = b.stop;
      ahead = h;
      low = let low = b.low in omega arith;
      order = λ more after. ap (λ l. are_in_order 0 0 (l ++ more)) (append-nil cs) ∙ b.order more (subst (λ n. are_in_order b.stop n more ≡ true) (omega arith) after);
    }

pub all_in_order : (size gone : ℕ) (ms : List Move) (cs : List Cut) → Behind size ms gone cs → are_in_order 0 0 cs ≡ true
all_in_order size gone ms cs b = ap (are_in_order 0 0) (sym (append-nil cs)) ∙ b.order [] refl

-- ---- the bytes in the file

stored_by : (c : Contents) (s : Section) (ms : List Move) → s.contents ≡ c → fit_inside c s.relocations ≡ true → AreCuts s ms → are_cuts 0 (length (stored c)) ms ≡ true
stored_by (Progbits bytes) s ms is fit cuts = sym (ap (λ c. are_cuts 0 (size_of c) ms) is) ∙ cuts.order
stored_by (Note bytes) s ms is fit cuts = sym (ap (λ c. are_cuts 0 (size_of c) ms) is) ∙ cuts.order
stored_by (Nobits size) s ms is fit cuts = ap (are_cuts 0 0) (none_in_zeros size s ms fit cuts)

pub stored_order : (s : Section) (ms : List Move) → fit_inside s.contents s.relocations ≡ true → AreCuts s ms → are_cuts 0 (length (stored s.contents)) ms ≡ true
stored_order s ms fit cuts = stored_by s.contents s ms refl fit cuts

-- ---- at an index

-- what a slice has past its end
abbrev pub past : Site
past = record { offset = 0; kind = Call (record { target = 0; addend = pos 0; compressed = false }) }

pub moves_here : (first : ℕ) (bytes : List ℕ) (sites : List Site) (kept : List ℕ) (i : ℕ) → i < length sites → length kept ≡ length sites
    → moves_of first bytes (drop i sites) (drop i kept) ≡ moves_of first bytes (slice_index_or sites i past ∷ drop (i + 1) sites) (slice_index_or kept i 0 ∷ drop (i + 1) kept)
moves_here first bytes sites kept i less many =
    ap (λ l. moves_of first bytes l (drop i kept)) (drop_more sites i past less)
    ∙ ap (λ l. moves_of first bytes (slice_index_or sites i past ∷ drop (i + 1) sites) l) (drop_more kept i 0 (omega arith))

-- ---- the sections of an object

pub one_of_object : (s : Section) (rest : List Section) (ys : List Site) (ks : List ℕ) (n : ℕ) (new : List Move) (made whole : List (List Move)) → n ≡ passed s ys → new ≡ section_moves s ys ks
    → made ++ object_moves (s ∷ rest) ys ks ≡ whole → (made ++ new ∷ []) ++ object_moves rest (drop n ys) (drop n ks) ≡ whole
one_of_object s rest ys ks n new made whole is now h =
    append_assoc made (new ∷ []) (object_moves rest (drop n ys) (drop n ks))
    ∙ ap (λ l. made ++ (l ∷ object_moves rest (drop n ys) (drop n ks))) now
    ∙ ap (λ m. made ++ (section_moves s ys ks ∷ object_moves rest (drop m ys) (drop m ks))) is
    ∙ h

pub one_left : (s : Section) (rest : List Section) (ys : List Site) (ks : List ℕ) (n : ℕ) (new : Section) (made whole : List Section) → n ≡ passed s ys → new ≡ cut_section (section_moves s ys ks) s
    → made ++ cut_sections (object_moves (s ∷ rest) ys ks) (s ∷ rest) ≡ whole → (made ++ new ∷ []) ++ cut_sections (object_moves rest (drop n ys) (drop n ks)) rest ≡ whole
one_left s rest ys ks n new made whole is now h =
    append_assoc made (new ∷ []) (cut_sections (object_moves rest (drop n ys) (drop n ks)) rest)
    ∙ ap (λ l. made ++ (l ∷ cut_sections (object_moves rest (drop n ys) (drop n ks)) rest)) now
    ∙ ap (λ m. made ++ (cut_section (section_moves s ys ks) s ∷ cut_sections (object_moves rest (drop m ys) (drop m ks)) rest)) is
    ∙ h

-- ---- a section's own bytes

no_room : (ms : List Move) → are_cuts 0 0 ms ≡ true → kept 0 ms [] ≡ []
no_room [] h = refl
no_room (m ∷ ms) h = let one = first_cut 0 0 m ms h in absurd (omega (arith, one.ends))

pub stored_left : (ms : List Move) (c : Contents) → are_cuts 0 (length (stored c)) ms ≡ true → kept 0 ms (stored c) ≡ stored (shortened_contents ms c)
stored_left ms (Progbits bytes) h = refl
stored_left ms (Note bytes) h = refl
stored_left ms (Nobits size) h = no_room ms h
