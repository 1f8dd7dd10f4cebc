-- The walk over a section of code whose calls are cut.

use Rattle.std.proofs.Common.{◌≡◌, ℕ, ◌+◌, ◌-◌, ◌≤◌, ◌<◌, Bool, true, false, List, [], ◌∷◌, ◌++◌, length, length-append, map, take, drop, refl, sym, ap, ◌∙◌, subst, arith, ◌⊎◌, None, inl, inr}
use Rattle.std.proofs.lemmas.List.{append-nil}
use Rattle.std.proofs.lemmas.Bool.{le-leb}
use Rattle.std.proofs.lemmas.List.Sums.{sum_by-cons}
use Rattle.std.specs.Prelude.{◌&&◌, ◌==◌, nat_lt, nat_le, min, if◌then◌else◌, flat_map}
use Rattle.std.specs.List.{AllByRecursion}
use Rattle.rv_list_laws.proofs.EachLemmas.{each_split, each_append}
use Rattle.rv_list_laws.proofs.TakeDropLemmas.{drop_front}
use Rattle.rv_isa.specs.declared.kind.Kind.{Kind}
use Rattle.rv_isa.specs.declared.kind.Kind.TheVariants as kinds
use Rattle.rv_unit_laws.specs.Tables.{Tables}
use Rattle.rv_object_laws.specs.Object.{Relocation}
use Rattle.rv_object_laws.specs.Padding.{operations_in}
use Rattle.rv_link_laws.specs.Moves.{Move, dropped, new_offset, kept, lost, lost_in}
use Rattle.rv_link_laws.specs.Shortened.{Sizes, short_call, is_shortened, shortened_kind, shortened_relocation}
use Rattle.rv_source_laws.specs.Shortened.{is_call_statement, link_register}
use Rattle.rv_assemble_laws.specs.CodeFields.{relax_fields}
use Rattle.rv_assemble_laws.specs.Templates.{Open, Coded, template_fields}
use Rattle.rv_assemble_laws.specs.LaidStatements.{LaidStatement, LaidPart, expression_value, laid_part, part_bytes, end_of, HasSize}
use Rattle.rv_assemble_laws.specs.IsObjectOf.{Numbering, relocation_at, relocations_from}
use Rattle.rv_assemble_laws.proofs.FilledLemmas.{bytes_append}
use Rattle.rv_sources_link_theorems.proofs.sections.AssembledLemmas.{assembled_templates, parts_of, parts, Tile}
use Rattle.rv_sources_link_theorems.proofs.calls.CalledLemmas.{short_coded}
use Rattle.rv_sources_link_theorems.proofs.calls.CutsLemmas.{link_of, is_cut, AreCalm, IsStill, IsCutCall}
use Rattle.rv_sources_link_theorems.proofs.calls.LongCallsLemmas as long
use Rattle.rv_sources_link_theorems.proofs.statements.PadsLemmas.{at}
use Rattle.rv_sources_link_theorems.proofs.moves.WalkLemmas.{Ahead, dropped_none, lost_none, lost_before, kept_front, relocations_join}

-- ---- cuts ahead

abbrev pub cut_move : Sizes → ℕ → LaidStatement → Move
cut_move sizes o z = record { place = o; full = 8; text = short_call (sizes o) (link_of z.located.kind) }

-- a statement with the cuts of its section made, where that is of text
abbrev pub cut_statement : Bool → Sizes → List Move → LaidStatement → LaidStatement
cut_statement text sizes ms z = record {
  located = z.located;
  offset = new_offset ms z.offset;
  bytes = new_offset ms (z.offset + z.bytes) - new_offset ms z.offset;
  instructions = z.instructions - lost ms z.offset z.bytes;
  coded = if text && is_cut sizes z then short_call (sizes z.offset) (link_of z.located.kind) ∷ [] else z.coded;
}

-- the calls of statements that are cut, where these follow one another from an offset on
abbrev pub cuts_from : Sizes → ℕ → List LaidStatement → List Move
cuts_from sizes o [] = []
cuts_from sizes o (z ∷ zs) = if is_cut sizes z then cut_move sizes o z ∷ cuts_from sizes (o + z.bytes) zs else cuts_from sizes (o + z.bytes) zs

ahead_less : (o p : ℕ) (ms : List Move) → o ≤ p → Ahead p ms → Ahead o ms
ahead_less o p [] l h = tt
ahead_less o p (m ∷ ms) l ((past, some), hs) = ((omega (arith, l, past), some), ahead_less o p ms l hs)

pub cuts_ahead : (sizes : Sizes) (o : ℕ) (zs : List LaidStatement) → Ahead o (cuts_from sizes o zs)
cuts_ahead sizes o [] = tt
cuts_ahead sizes o (z ∷ zs) = go (is_cut sizes z) (ahead_less o (o + z.bytes) (cuts_from sizes (o + z.bytes) zs) (omega arith) (cuts_ahead sizes (o + z.bytes) zs))
  where
    go : (b : Bool) → Ahead o (cuts_from sizes (o + z.bytes) zs) → Ahead o (if b then cut_move sizes o z ∷ cuts_from sizes (o + z.bytes) zs else cuts_from sizes (o + z.bytes) zs)
    go true ih = ((omega arith, omega arith), ih)
    go false ih = ih

module _ (t : Tables) (number : Numbering) (sizes : Sizes) (multiple : ℕ) where
  abbrev pub Still : LaidStatement → Type 0
  Still z = IsStill t number sizes multiple z z.located.kind

  abbrev pub Cut : LaidStatement → Type 0
  Cut z = IsCutCall t sizes z

  abbrev pub Sorted : LaidStatement → Type 0
  Sorted z = Still z ⊎ Cut z

  pub cuts_still : (o : ℕ) (z : LaidStatement) (zs : List LaidStatement) → Still z → cuts_from sizes o (z ∷ zs) ≡ cuts_from sizes (o + z.bytes) zs
  cuts_still o z zs h = ap (λ b. if b then cut_move sizes o z ∷ cuts_from sizes (o + z.bytes) zs else cuts_from sizes (o + z.bytes) zs) h.calm

  cut_true : (z : LaidStatement) → Cut z → is_cut sizes z ≡ true
  cut_true z h = ap (λ k. is_call_statement k && nat_lt (sizes z.offset) 8) h.is_kind ∙ ap (λ b. b && nat_lt (sizes z.offset) 8) h.call ∙ h.less

  pub cuts_cut : (o : ℕ) (z : LaidStatement) (zs : List LaidStatement) → Cut z → cuts_from sizes o (z ∷ zs) ≡ cut_move sizes o z ∷ cuts_from sizes (o + z.bytes) zs
  cuts_cut o z zs h = ap (λ b. if b then cut_move sizes o z ∷ cuts_from sizes (o + z.bytes) zs else cuts_from sizes (o + z.bytes) zs) (cut_true z h)

  -- what is left of a call
  abbrev pub cut_at : ℕ → (z : LaidStatement) → Cut z → LaidStatement
  cut_at n z h = long.cut_to t z multiple h.m h.os h.is_kind h.call h.long (sizes z.offset) h.short n

  abbrev pub small : (z : LaidStatement) → Cut z → ℕ
  small z h = sizes z.offset

  small_fits : (z : LaidStatement) (h : Cut z) → (sizes z.offset ≤ 8) × (0 < sizes z.offset) × (operations_in (sizes z.offset) ≡ 1)
  small_fits z h = go h.short
    where
      go : (sizes z.offset ≡ 4) ⊎ ((sizes z.offset ≡ 2) × (link_register h.m h.os ≡ 0)) → (sizes z.offset ≤ 8) × (0 < sizes z.offset) × (operations_in (sizes z.offset) ≡ 1)
      go (inl e) = (omega (arith, e), omega (arith, e), ap operations_in e)
      go (inr (e, none)) = (omega (arith, e), omega (arith, e), ap operations_in e)

  text_long : (z : LaidStatement) (h : Cut z) → length (short_call (sizes z.offset) (link_of z.located.kind)) ≡ sizes z.offset
  text_long z h = ap (λ k. length (short_call (sizes z.offset) (link_of k))) h.is_kind ∙ (short_coded None false (link_register h.m h.os) (sizes z.offset) h.long.link_low h.short).1

  -- ---- the walk

  module _ (ms : List Move) where
    abbrev N : ℕ → ℕ
    N n = new_offset ms n

    abbrev pub S : LaidStatement → LaidStatement
    S z = cut_statement true sizes ms z

    pub record StillStep (o gone : ℕ) (z : LaidStatement) : Type 0 where
      pub still : Still z
      pub is : S z ≡ at (o - gone) z
      pub shift : (d : ℕ) → d ≤ z.bytes → N (o + d) ≡ (o - gone) + d

    pub record CutStep (o gone : ℕ) (z : LaidStatement) : Type 0 where
      pub cut : Cut z
      pub is : S z ≡ cut_at (o - gone) z cut
      pub here : N o ≡ o - gone

    abbrev pub Steps : ℕ → ℕ → List LaidStatement → Type 0
    Steps o gone [] = N o ≡ o - gone
    Steps o gone (z ∷ zs) =
        (z.offset ≡ o) × (z.bytes ≡ length (flat_map part_bytes (parts_of t z))) × (gone ≤ o)
        × ((StillStep o gone z × Steps (o + z.bytes) gone zs) ⊎ (CutStep o gone z × Steps (o + z.bytes) (gone + (8 - sizes z.offset)) zs))

    laid_is : (z : LaidStatement) (a b c : ℕ) (l : List (List ℕ)) → N z.offset ≡ a → N (z.offset + z.bytes) - N z.offset ≡ b → z.instructions - lost ms z.offset z.bytes ≡ c → (S z).coded ≡ l
        → S z ≡ record { located = z.located; offset = a; bytes = b; instructions = c; coded = l }
    laid_is z a b c l e f g h =
        let mk : ℕ → ℕ → ℕ → List (List ℕ) → LaidStatement = λ a b c l. record { located = z.located; offset = a; bytes = b; instructions = c; coded = l } in
        ap (λ n. mk n (N (z.offset + z.bytes) - N z.offset) (z.instructions - lost ms z.offset z.bytes) (S z).coded) e
        ∙ ap (λ n. mk a n (z.instructions - lost ms z.offset z.bytes) (S z).coded) f ∙ ap (λ n. mk a b n (S z).coded) g ∙ ap (mk a b c) h

    module _ (o gone : ℕ) (z : LaidStatement) (zs : List LaidStatement) (off : z.offset ≡ o) (low : gone ≤ o)
        (before : (old : ℕ) → o ≤ old → dropped ms old ≡ gone + dropped (cuts_from sizes o (z ∷ zs)) old)
        (losses : (a b : ℕ) → o ≤ a → lost ms a b ≡ lost (cuts_from sizes o (z ∷ zs)) a b) where
      abbrev T : List Move
      T = cuts_from sizes (o + z.bytes) zs

      ahead : Ahead (o + z.bytes) T
      ahead = cuts_ahead sizes (o + z.bytes) zs

      -- ---- bytes that stay

      module _ (h : Still z) where
        before_still : (old : ℕ) → o ≤ old → dropped ms old ≡ gone + dropped T old
        before_still old l = before old l ∙ ap (λ rs. gone + dropped rs old) (cuts_still o z zs h)

        losses_still : (a b : ℕ) → o ≤ a → lost ms a b ≡ lost T a b
        losses_still a b l = losses a b l ∙ ap (λ rs. lost rs a b) (cuts_still o z zs h)

        shift_still : (d : ℕ) → d ≤ z.bytes → N (o + d) ≡ (o - gone) + d
        shift_still d l =
            let e : dropped ms (o + d) ≡ gone = before_still (o + d) (omega arith) ∙ ap (λ n. gone + n) (dropped_none (o + z.bytes) (o + d) T ahead (omega (arith, l))) ∙ (let f : gone + 0 ≡ gone = omega arith in f) in
            ap (λ n. o + d - n) e ∙ (let f : o + d - gone ≡ (o - gone) + d = omega (arith, low) in f)

        step_still : StillStep o gone z
        step_still = record {
          still = h;
          is = laid_is z (o - gone) z.bytes z.instructions z.coded here (ap (λ n. n - N z.offset) there ∙ ap (λ n. (o - gone) + z.bytes - n) here ∙ (let f : (o - gone) + z.bytes - (o - gone) ≡ z.bytes = omega arith in f))
              (ap (λ n. z.instructions - n) none ∙ (let f : z.instructions - 0 ≡ z.instructions = omega arith in f))
              (ap (λ b. if b then short_call (sizes z.offset) (link_of z.located.kind) ∷ [] else z.coded) h.calm);
          shift = shift_still;
        }
          where
            here : N z.offset ≡ o - gone
            here = ap N (off ∙ (let e : o ≡ o + 0 = omega arith in e)) ∙ shift_still 0 (omega arith) ∙ (let f : (o - gone) + 0 ≡ o - gone = omega arith in f)

            there : N (z.offset + z.bytes) ≡ (o - gone) + z.bytes
            there = ap (λ n. N (n + z.bytes)) off ∙ shift_still z.bytes (omega arith)

            none : lost ms z.offset z.bytes ≡ 0
            none = ap (λ n. lost ms n z.bytes) off ∙ losses_still o z.bytes (omega arith) ∙ lost_none (o + z.bytes) o z.bytes T ahead (omega arith)

      -- ---- a call

      module _ (h : Cut z) where
        abbrev n : ℕ
        n = sizes z.offset

        abbrev move : Move
        move = cut_move sizes o z

        move_long : length move.text ≡ n
        move_long = ap (λ k. length (short_call (sizes k) (link_of z.located.kind))) (sym off) ∙ text_long z h

        eight : z.bytes ≡ 8
        eight = h.long.bytes

        before_here : (old : ℕ) → o ≤ old → dropped ms old ≡ gone + (min (8 - n) (old - (o + n)) + dropped T old)
        before_here old l =
            before old l ∙ ap (λ rs. gone + dropped rs old) (cuts_cut o z zs h) ∙ ap (λ k. gone + (min (8 - k) (old - (o + k)) + dropped T old)) move_long

        before_cut : (old : ℕ) → o + z.bytes ≤ old → dropped ms old ≡ (gone + (8 - n)) + dropped T old
        before_cut old l =
            let fit = (small_fits z h).0 in
            let long = eight in
            let rest = dropped T old in
            let e : min (8 - n) (old - (o + n)) ≡ 8 - n = omega (arith, l, fit, long) in
            before_here old (omega (arith, l)) ∙ ap (λ k. gone + (k + rest)) e ∙ (let f : gone + (8 - n + rest) ≡ (gone + (8 - n)) + rest = omega arith in f)

        losses_here : (a b : ℕ) → o ≤ a → lost ms a b ≡ lost_in a b move + lost T a b
        losses_here a b l = losses a b l ∙ ap (λ rs. lost rs a b) (cuts_cut o z zs h) ∙ sum_by-cons (λ m. lost_in a b m) move T

        losses_cut : (a b : ℕ) → o + z.bytes ≤ a → lost ms a b ≡ lost T a b
        losses_cut a b l =
            let long = eight in
            losses_here a b (omega (arith, l)) ∙ ap (λ k. k + lost T a b) (lost_before move a b (omega (arith, l, long))) ∙ (let k = lost T a b in let f : 0 + k ≡ k = omega arith in f)

        start_cut : N o ≡ o - gone
        start_cut =
            let none = dropped_none (o + z.bytes) o T ahead (omega arith) in
            let e : o - (o + n) ≡ 0 = omega arith in
            let k = 8 - n in
            ap (λ x. o - x)
            (before_here o (omega arith) ∙ ap (λ x. gone + (min k x + dropped T o)) e ∙ ap (λ x. gone + (min k 0 + x)) none ∙ (let f : gone + (min k 0 + 0) ≡ gone = omega arith in f))

        step_cut : CutStep o gone z
        step_cut = record {
          cut = h;
          is = laid_is z (o - gone) n 1 (short_call n (link_register h.m h.os) ∷ []) here (ap (λ x. x - N z.offset) there ∙ ap (λ x. (o - gone) + n - x) here ∙ (let f : (o - gone) + n - (o - gone) ≡ n = omega arith in f)) left
              (ap (λ b. if b then short_call n (link_of z.located.kind) ∷ [] else z.coded) (cut_true z h) ∙ ap (λ k. short_call n (link_of k) ∷ []) h.is_kind);
          here = start_cut;
        }
          where
            here : N z.offset ≡ o - gone
            here = ap N off ∙ start_cut

            there : N (z.offset + z.bytes) ≡ (o - gone) + n
            there =
                let none = dropped_none (o + z.bytes) (o + z.bytes) T ahead (omega arith) in
                let fit = (small_fits z h).0 in
                let long = eight in
                ap (λ x. N (x + z.bytes)) off
                ∙ ap (λ x. o + z.bytes - x) (before_cut (o + z.bytes) (omega arith) ∙ ap (λ x. (gone + (8 - n)) + x) none)
                ∙ (let f : o + z.bytes - ((gone + (8 - n)) + 0) ≡ (o - gone) + n = omega (arith, low, fit, long) in f)

            gives : lost ms z.offset z.bytes ≡ 1
            gives =
                let none = lost_none (o + z.bytes) o z.bytes T ahead (omega arith) in
                let gone_here = operations_in 8 - operations_in (length move.text) in
                let long = eight in
                ap (λ x. lost ms x z.bytes) off ∙ losses_here o z.bytes (omega arith)
                ∙ ap (λ b. (if b && nat_le (o + 8) (o + z.bytes) then gone_here else 0) + lost T o z.bytes) (le-leb o o (omega arith))
                ∙ ap (λ b. (if b then gone_here else 0) + lost T o z.bytes) (le-leb (o + 8) (o + z.bytes) (omega (arith, long)))
                ∙ ap (λ x. gone_here + x) none ∙ ap (λ x. operations_in 8 - x + 0) (ap operations_in move_long ∙ (small_fits z h).2)

            left : z.instructions - lost ms z.offset z.bytes ≡ 1
            left = ap (λ x. x - lost ms z.offset z.bytes) h.long.count ∙ ap (λ x. 2 - x) gives

    pub steps : (o gone : ℕ) (zs : List LaidStatement) → Tile t o zs → AllByRecursion Sorted zs → gone ≤ o
        → ((old : ℕ) → o ≤ old → dropped ms old ≡ gone + dropped (cuts_from sizes o zs) old)
        → ((a b : ℕ) → o ≤ a → lost ms a b ≡ lost (cuts_from sizes o zs) a b) → Steps o gone zs
    steps o gone [] tile h low before losses = ap (λ n. o - n) (before o (omega arith) ∙ (let f : gone + 0 ≡ gone = omega arith in f))
    steps o gone (z ∷ zs) (off, bytes, tile) (inl h, hs) low before losses = (
      off,
      bytes,
      low,
      inl (
        step_still o gone z zs off low before losses h,
        steps (o + z.bytes) gone zs tile hs (omega (arith, low))
            (λ old l. before_still o gone z zs off low before losses h old (omega (arith, l)))
            (λ a b l. losses_still o gone z zs off low before losses h a b (omega (arith, l))),
      ),
    )
    steps o gone (z ∷ zs) (off, bytes, tile) (inr h, hs) low before losses =
        let long = h.long.bytes in (
          off,
          bytes,
          low,
          inr (
            step_cut o gone z zs off low before losses h,
            steps (o + z.bytes) (gone + (8 - sizes z.offset)) zs tile hs (omega (arith, low, long))
                (before_cut o gone z zs off low before losses h)
                (losses_cut o gone z zs off low before losses h),
          ),
        )

    -- ---- what is left of a section

    own_still : (o gone : ℕ) (z : LaidStatement) → StillStep o gone z → parts_of t (S z) ≡ parts_of t z
    own_still o gone z s = ap (parts_of t) s.is ∙ ap (map (laid_part z.located.ordinal)) (s.still.same (o - gone))

    -- the part of a cut call
    abbrev short_field : (z : LaidStatement) → Cut z → Open
    short_field z h = long.field t z multiple h.m h.os h.is_kind h.call h.long (long.short_kind t z multiple h.m h.os h.is_kind h.call h.long (sizes z.offset) h.short)

    abbrev mark : LaidStatement → List Open
    mark z = relax_fields z.located.options.relax z.located.ordinal

    abbrev short_part : (z : LaidStatement) → Cut z → LaidPart
    short_part z h = laid_part z.located.ordinal (Coded (short_call (sizes z.offset) (link_register h.m h.os)) (short_field z h ∷ mark z))

    own_cut : (o gone : ℕ) (z : LaidStatement) (s : CutStep o gone z) → parts_of t (S z) ≡ short_part z s.cut ∷ []
    own_cut o gone z s =
        let h = s.cut in
        ap (parts_of t) s.is ∙ ap (λ k. map (laid_part z.located.ordinal) (assembled_templates t (cut_at (o - gone) z h) k)) h.is_kind
        ∙ ap (map (laid_part z.located.ordinal)) (long.is t z multiple h.m h.os h.is_kind h.call h.long (sizes z.offset) h.short (o - gone))

    pub long_part : (z : LaidStatement) (h : Cut z) → parts_of t z ≡ laid_part z.located.ordinal (Coded (h.long.first ++ h.long.second) (long.field t z multiple h.m h.os h.is_kind h.call h.long kinds.CallPlt ∷ mark z)) ∷ []
    long_part z h = ap (λ k. map (laid_part z.located.ordinal) (assembled_templates t z k)) h.is_kind ∙ ap (map (laid_part z.located.ordinal)) (long.was t z multiple h.m h.os h.is_kind h.call h.long)

    part_long : (z : LaidStatement) (h : Cut z) → length (flat_map part_bytes (short_part z h ∷ [])) ≡ sizes z.offset
    part_long z h =
        ap length (append-nil (short_call (sizes z.offset) (link_register h.m h.os))) ∙ (short_coded None false (link_register h.m h.os) (sizes z.offset) h.long.link_low h.short).1

    next_still : (o gone b : ℕ) → gone ≤ o → o + b - gone ≡ (o - gone) + b
    next_still o gone b low = omega (arith, low)

    next_cut : (o gone b n : ℕ) → gone ≤ o → n ≤ 8 → b ≡ 8 → o + b - (gone + (8 - n)) ≡ (o - gone) + n
    next_cut o gone b n low fit e = omega (arith, low, fit, e)

    -- they follow one another
    pub tiled : (o gone : ℕ) (zs : List LaidStatement) → Steps o gone zs → Tile t (o - gone) (map S zs)
    tiled o gone [] st = tt
    tiled o gone (z ∷ zs) (off, bytes, low, inl (s, st)) =
        let long : (S z).bytes ≡ z.bytes = ap (λ (y : LaidStatement). y.bytes) s.is in (
          ap (λ (y : LaidStatement). y.offset) s.is,
          long ∙ bytes ∙ ap (λ l. length (flat_map part_bytes l)) (sym (own_still o gone z s)),
          subst (λ n. Tile t n (map S zs)) (next_still o gone z.bytes low ∙ ap (λ n. (o - gone) + n) (sym long)) (tiled (o + z.bytes) gone zs st),
        )
    tiled o gone (z ∷ zs) (off, bytes, low, inr (s, st)) =
        let long : (S z).bytes ≡ sizes z.offset = ap (λ (y : LaidStatement). y.bytes) s.is in (
          ap (λ (y : LaidStatement). y.offset) s.is,
          long ∙ sym (part_long z s.cut) ∙ ap (λ l. length (flat_map part_bytes l)) (sym (own_cut o gone z s)),
          subst (λ n. Tile t n (map S zs)) (next_cut o gone z.bytes (sizes z.offset) low (small_fits z s.cut).0 s.cut.long.bytes ∙ ap (λ n. (o - gone) + n) (sym long))
              (tiled (o + z.bytes) (gone + (8 - sizes z.offset)) zs st),
        )

    -- their end
    pub ended : (o gone : ℕ) (zs : List LaidStatement) → Steps o gone zs → new_offset ms (end_of o zs) ≡ end_of (o - gone) (map S zs)
    ended o gone [] st = st
    ended o gone (z ∷ zs) (off, bytes, low, inl (s, st)) =
        ended (o + z.bytes) gone zs st
        ∙ ap (λ n. end_of n (map S zs)) (next_still o gone z.bytes low ∙ ap (λ n. (o - gone) + n) (sym (ap (λ (y : LaidStatement). y.bytes) s.is)))
    ended o gone (z ∷ zs) (off, bytes, low, inr (s, st)) =
        ended (o + z.bytes) (gone + (8 - sizes z.offset)) zs st
        ∙ ap (λ n. end_of n (map S zs)) (next_cut o gone z.bytes (sizes z.offset) low (small_fits z s.cut).0 s.cut.long.bytes ∙ ap (λ n. (o - gone) + n) (sym (ap (λ (y : LaidStatement). y.bytes) s.is)))

    -- what is kept of the section
    pub bytes_kept : (o gone : ℕ) (zs : List LaidStatement) → Steps o gone zs → kept o (cuts_from sizes o zs) (flat_map part_bytes (parts t zs)) ≡ flat_map part_bytes (parts t (map S zs))
    bytes_kept o gone [] st = refl
    bytes_kept o gone (z ∷ zs) (off, bytes, low, inl (s, st)) =
        let own = flat_map part_bytes (parts_of t z) in
        let rest = flat_map part_bytes (parts t zs) in
        let later = cuts_from sizes (o + z.bytes) zs in
        let past : Ahead (o + length own) later = subst (λ n. Ahead (o + n) later) bytes (cuts_ahead sizes (o + z.bytes) zs) in
        ap (λ rs. kept o rs (flat_map part_bytes (parts t (z ∷ zs)))) (cuts_still o z zs s.still)
        ∙ ap (kept o later) (bytes_append (parts_of t z) (parts t zs))
        ∙ kept_front o later own rest past
        ∙ ap (λ n. own ++ kept (o + n) later rest) (sym bytes)
        ∙ ap (λ l. own ++ l) (bytes_kept (o + z.bytes) gone zs st)
        ∙ ap (λ l. flat_map part_bytes l ++ flat_map part_bytes (parts t (map S zs))) (sym (own_still o gone z s))
        ∙ sym (bytes_append (parts_of t (S z)) (parts t (map S zs)))
    bytes_kept o gone (z ∷ zs) (off, bytes, low, inr (s, st)) =
        let own = flat_map part_bytes (parts_of t z) in
        let rest = flat_map part_bytes (parts t zs) in
        let later = cuts_from sizes (o + z.bytes) zs in
        let text = short_call (sizes o) (link_of z.located.kind) in
        let whole : z.bytes ≡ 8 = s.cut.long.bytes in
        ap (λ rs. kept o rs (flat_map part_bytes (parts t (z ∷ zs)))) (cuts_cut o z zs s.cut)
        ∙ ap (λ l. take (o - o) l ++ (text ++ kept (o + 8) later (drop (o + 8 - o) l))) (bytes_append (parts_of t z) (parts t zs))
        ∙ ap (λ n. take n (own ++ rest) ++ (text ++ kept (o + 8) later (drop (o + 8 - o) (own ++ rest)))) (let e : o - o ≡ 0 = omega arith in e)
        ∙ ap (λ l. l ++ (text ++ kept (o + 8) later (drop (o + 8 - o) (own ++ rest)))) (none_taken (own ++ rest))
        ∙ ap (λ n. text ++ kept (o + 8) later (drop n (own ++ rest))) ((let e : o + 8 - o ≡ z.bytes = omega (arith, whole) in e) ∙ bytes)
        ∙ ap (λ l. text ++ kept (o + 8) later l) (drop_front own rest)
        ∙ ap (λ n. text ++ kept (o + n) later rest) (sym whole)
        ∙ ap (λ l. text ++ l) (bytes_kept (o + z.bytes) (gone + (8 - sizes z.offset)) zs st)
        ∙ ap (λ l. l ++ flat_map part_bytes (parts t (map S zs)))
        (ap (λ n. short_call (sizes n) (link_of z.located.kind)) (sym off) ∙ ap (λ k. short_call (sizes z.offset) (link_of k)) s.cut.is_kind
        ∙ sym (append-nil (short_call (sizes z.offset) (link_register s.cut.m s.cut.os))) ∙ ap (flat_map part_bytes) (sym (own_cut o gone z s)))
        ∙ sym (bytes_append (parts_of t (S z)) (parts t (map S zs)))
      where
        none_taken : (l : List ℕ) → take 0 l ≡ []
        none_taken [] = refl
        none_taken (x ∷ l) = refl

    -- its relocations
    map_join : (xs ys : List Relocation) → map (shortened_relocation sizes ms) (xs ++ ys) ≡ map (shortened_relocation sizes ms) xs ++ map (shortened_relocation sizes ms) ys
    map_join [] ys = refl
    map_join (x ∷ xs) ys = ap (λ l. shortened_relocation sizes ms x ∷ l) (map_join xs ys)

    calm_kind : (r : Relocation) → is_shortened sizes r ≡ false → shortened_kind sizes r ≡ r.kind
    calm_kind r e = ap (λ b. if b then (if sizes r.place == 2 then kinds.RvcJump else kinds.Jal) else r.kind) e

    fields_still : (a c : ℕ) (fs : List Open) → N a ≡ c → AreCalm sizes (map (relocation_at number a) fs) → map (shortened_relocation sizes ms) (map (relocation_at number a) fs) ≡ map (relocation_at number c) fs
    fields_still a c [] e h = refl
    fields_still a c (f ∷ fs) e (h, hs) =
        let made : ℕ → Kind → Relocation = λ place k. record { place = place; kind = k; symbol = (relocation_at number a f).symbol; addend = f.addend } in
        ap (λ k. made (N a) k ∷ map (shortened_relocation sizes ms) (map (relocation_at number a) fs)) (calm_kind (relocation_at number a f) h)
        ∙ ap (λ n. made n f.kind ∷ map (shortened_relocation sizes ms) (map (relocation_at number a) fs)) e ∙ ap (λ l. relocation_at number c f ∷ l) (fields_still a c fs e hs)

    parts_still : (a c : ℕ) (ps : List LaidPart) → ((d : ℕ) → d ≤ length (flat_map part_bytes ps) → N (a + d) ≡ c + d) → AreCalm sizes (relocations_from number a ps)
        → map (shortened_relocation sizes ms) (relocations_from number a ps) ≡ relocations_from number c ps
    parts_still a c [] shift h = refl
    parts_still a c (p ∷ ps) shift h =
        let own = map (relocation_at number a) (template_fields p.ordinal p.template) in
        let next = a + length (part_bytes p) in
        let both = each_split (λ r. is_shortened sizes r ≡ false) own (relocations_from number next ps) h in
        let long : length (part_bytes p ++ flat_map part_bytes ps) ≡ length (part_bytes p) + length (flat_map part_bytes ps) = length-append (part_bytes p) (flat_map part_bytes ps) in
        let first : N a ≡ c = ap N (let e : a ≡ a + 0 = omega arith in e) ∙ shift 0 (omega arith) ∙ (let e : c + 0 ≡ c = omega arith in e) in
        map_join own (relocations_from number next ps)
        ∙ ap (λ l. l ++ map (shortened_relocation sizes ms) (relocations_from number next ps)) (fields_still a c (template_fields p.ordinal p.template) first both.0)
        ∙ ap (λ l. map (relocation_at number c) (template_fields p.ordinal p.template) ++ l)
        (parts_still next (c + length (part_bytes p)) ps
        (λ d l. ap N (let e : next + d ≡ a + (length (part_bytes p) + d) = omega arith in e) ∙ shift (length (part_bytes p) + d) (omega (arith, l, long))
        ∙ (let e : c + (length (part_bytes p) + d) ≡ c + length (part_bytes p) + d = omega arith in e)) both.1)

    -- those of a cut call
    kind_cut : (z : LaidStatement) (h : Cut z) (o : ℕ) → z.offset ≡ o
        → shortened_kind sizes (relocation_at number o (long.field t z multiple h.m h.os h.is_kind h.call h.long kinds.CallPlt)) ≡ (short_field z h).kind
    kind_cut z h o off =
        ap (λ b. if b then (if sizes o == 2 then kinds.RvcJump else kinds.Jal) else kinds.CallPlt) (ap (λ n. nat_lt (sizes n) 8) (sym off) ∙ h.less)
        ∙ ap (λ n. if sizes n == 2 then kinds.RvcJump else kinds.Jal) (sym off) ∙ go h.short
      where
        go : (sizes z.offset ≡ 4) ⊎ ((sizes z.offset ≡ 2) × (link_register h.m h.os ≡ 0))
            → (if sizes z.offset == 2 then kinds.RvcJump else kinds.Jal) ≡ (if (link_register h.m h.os == 0) && (sizes z.offset == 2) then kinds.RvcJump else kinds.Jal)
        go (inl four) = ap (λ n. if n == 2 then kinds.RvcJump else kinds.Jal) four ∙ by (link_register h.m h.os == 0) ∙ ap (λ n. if (link_register h.m h.os == 0) && (n == 2) then kinds.RvcJump else kinds.Jal) (sym four)
          where
            by : (b : Bool) → kinds.Jal ≡ (if b && false then kinds.RvcJump else kinds.Jal)
            by true = refl
            by false = refl
        go (inr (two, none)) =
            ap (λ n. if n == 2 then kinds.RvcJump else kinds.Jal) two ∙ ap (λ n. if (n == 0) && true then kinds.RvcJump else kinds.Jal) (sym none)
            ∙ ap (λ n. if (link_register h.m h.os == 0) && (n == 2) then kinds.RvcJump else kinds.Jal) (sym two)

    pub marks_calm : (o : ℕ) (b : Bool) (ordinal : ℕ) → AreCalm sizes (map (relocation_at number o) (relax_fields b ordinal))
    marks_calm o true ordinal = (refl, tt)
    marks_calm o false ordinal = tt

    call_moved : (z : LaidStatement) (h : Cut z) (o c : ℕ) → z.offset ≡ o → N o ≡ c
        → map (shortened_relocation sizes ms) (relocations_from number o (parts_of t z)) ≡ relocations_from number c (short_part z h ∷ [])
    call_moved z h o c off e =
        let f = long.field t z multiple h.m h.os h.is_kind h.call h.long kinds.CallPlt in
        let marks = map (relocation_at number o) (mark z) in
        let made : ℕ → Kind → Relocation = λ place k. record { place = place; kind = k; symbol = (relocation_at number o f).symbol; addend = f.addend } in
        ap (λ ps. map (shortened_relocation sizes ms) (relocations_from number o ps)) (long_part z h)
        ∙ map_join (relocation_at number o f ∷ marks) []
        ∙ ap (λ k. (made (N o) k ∷ map (shortened_relocation sizes ms) marks) ++ []) (kind_cut z h o off)
        ∙ ap (λ n. (made n (short_field z h).kind ∷ map (shortened_relocation sizes ms) marks) ++ []) e
        ∙ ap (λ l. (made c (short_field z h).kind ∷ l) ++ []) (fields_still o c (mark z) e (marks_calm o z.located.options.relax z.located.ordinal))

    pub relocations_kept : (o gone : ℕ) (zs : List LaidStatement) → Steps o gone zs
        → map (shortened_relocation sizes ms) (relocations_from number o (parts t zs)) ≡ relocations_from number (o - gone) (parts t (map S zs))
    relocations_kept o gone [] st = refl
    relocations_kept o gone (z ∷ zs) (off, bytes, low, inl (s, st)) =
        let own = parts_of t z in
        let later = parts t (map S zs) in
        let calm = subst (λ n. AreCalm sizes (relocations_from number n own)) off s.still.none in
        ap (map (shortened_relocation sizes ms)) (relocations_join t number o own (parts t zs))
        ∙ map_join (relocations_from number o own) (relocations_from number (o + length (flat_map part_bytes own)) (parts t zs))
        ∙ ap (λ l. l ++ map (shortened_relocation sizes ms) (relocations_from number (o + length (flat_map part_bytes own)) (parts t zs)))
        (parts_still o (o - gone) own (λ d l. s.shift d (subst (λ n. d ≤ n) (sym bytes) l)) calm)
        ∙ ap (λ n. relocations_from number (o - gone) own ++ map (shortened_relocation sizes ms) (relocations_from number (o + n) (parts t zs))) (sym bytes)
        ∙ ap (λ l. relocations_from number (o - gone) own ++ l) (relocations_kept (o + z.bytes) gone zs st)
        ∙ ap (λ n. relocations_from number (o - gone) own ++ relocations_from number n later) (next_still o gone z.bytes low ∙ ap (λ n. (o - gone) + n) bytes)
        ∙ sym (relocations_join t number (o - gone) own later)
        ∙ ap (λ l. relocations_from number (o - gone) (l ++ later)) (sym (own_still o gone z s))
    relocations_kept o gone (z ∷ zs) (off, bytes, low, inr (s, st)) =
        let own = parts_of t z in
        let later = parts t (map S zs) in
        let c = o - gone in
        ap (map (shortened_relocation sizes ms)) (relocations_join t number o own (parts t zs))
        ∙ map_join (relocations_from number o own) (relocations_from number (o + length (flat_map part_bytes own)) (parts t zs))
        ∙ ap (λ l. l ++ map (shortened_relocation sizes ms) (relocations_from number (o + length (flat_map part_bytes own)) (parts t zs))) (call_moved z s.cut o c off s.here)
        ∙ ap (λ n. relocations_from number c (short_part z s.cut ∷ []) ++ map (shortened_relocation sizes ms) (relocations_from number (o + n) (parts t zs))) (sym bytes)
        ∙ ap (λ l. relocations_from number c (short_part z s.cut ∷ []) ++ l) (relocations_kept (o + z.bytes) (gone + (8 - sizes z.offset)) zs st)
        ∙ ap (λ n. relocations_from number c (short_part z s.cut ∷ []) ++ relocations_from number n later)
        (next_cut o gone z.bytes (sizes z.offset) low (small_fits z s.cut).0 s.cut.long.bytes ∙ ap (λ n. c + n) (sym (part_long z s.cut)))
        ∙ sym (relocations_join t number c (short_part z s.cut ∷ []) later)
        ∙ ap (λ l. relocations_from number c (l ++ later)) (sym (own_cut o gone z s))

    -- sizes
    pub sizes_kept : (o gone : ℕ) (zs : List LaidStatement) → Steps o gone zs
        → AllByRecursion (λ (y : LaidStatement). y.located.placed ≡ true → HasSize (expression_value t y.located) y multiple y.located.kind) (map S zs)
    sizes_kept o gone [] st = tt
    sizes_kept o gone (z ∷ zs) (off, bytes, low, inl (s, st)) = (
      subst (λ (y : LaidStatement). y.located.placed ≡ true → HasSize (expression_value t y.located) y multiple y.located.kind) (sym s.is) (λ placed. s.still.sized (o - gone) placed),
      sizes_kept (o + z.bytes) gone zs st,
    )
    sizes_kept o gone (z ∷ zs) (off, bytes, low, inr (s, st)) =
        let h = s.cut in (
          subst (λ (y : LaidStatement). y.located.placed ≡ true → HasSize (expression_value t y.located) y multiple y.located.kind) (sym s.is)
              (λ placed. subst (λ k. HasSize (expression_value t z.located) (cut_at (o - gone) z h) multiple k) (sym h.is_kind)
              (long.sized t z multiple h.m h.os h.is_kind h.call h.long (sizes z.offset) h.short (o - gone))),
          sizes_kept (o + z.bytes) (gone + (8 - sizes z.offset)) zs st,
        )

    -- what holds of each part by the symbols of its fields
    pub parts_kept : (P : LaidPart → Type 0) → ((ordinal : ℕ) (bytes bytes' : List ℕ) (k : Kind) (f : Open) (fs : List Open) → P (laid_part ordinal (Coded bytes (f ∷ fs))) → P (laid_part ordinal (Coded bytes' (record f { kind = k } ∷ fs))))
        → (o gone : ℕ) (zs : List LaidStatement) → Steps o gone zs → AllByRecursion P (parts t zs) → AllByRecursion P (parts t (map S zs))
    parts_kept P alike o gone [] st h = tt
    parts_kept P alike o gone (z ∷ zs) (off, bytes, low, inl (s, st)) h =
        let both = each_split P (parts_of t z) (parts t zs) h in
        each_append P (parts_of t (S z)) (parts t (map S zs)) (subst (λ l. AllByRecursion P l) (sym (own_still o gone z s)) both.0) (parts_kept P alike (o + z.bytes) gone zs st both.1)
    parts_kept P alike o gone (z ∷ zs) (off, bytes, low, inr (s, st)) h =
        let both = each_split P (parts_of t z) (parts t zs) h in
        let own = subst (λ l. AllByRecursion P l) (long_part z s.cut) both.0 in
        each_append P (parts_of t (S z)) (parts t (map S zs))
        (subst (λ l. AllByRecursion P l) (sym (own_cut o gone z s))
        (alike z.located.ordinal _ (short_call (sizes z.offset) (link_register s.cut.m s.cut.os)) (short_field z s.cut).kind (long.field t z multiple s.cut.m s.cut.os s.cut.is_kind s.cut.call s.cut.long kinds.CallPlt) (mark z) own.0, tt))
        (parts_kept P alike (o + z.bytes) (gone + (8 - sizes z.offset)) zs st both.1)

    -- the bytes of each statement
    abbrev pub IsResized : LaidStatement → Type 0
    IsResized z = (is_call_statement z.located.kind ≡ true → (S z).bytes ≡ sizes z.offset) × (is_call_statement z.located.kind ≡ false → (S z).bytes ≡ z.bytes)

    pub resized : (o gone : ℕ) (zs : List LaidStatement) → Steps o gone zs → AllByRecursion IsResized zs
    resized o gone [] st = tt
    resized o gone (z ∷ zs) (off, bytes, low, inl (s, st)) =
        let same : (S z).bytes ≡ z.bytes = ap (λ (y : LaidStatement). y.bytes) s.is in
        (((λ call. same ∙ s.still.whole call), (λ call. same)), resized (o + z.bytes) gone zs st)
    resized o gone (z ∷ zs) (off, bytes, low, inr (s, st)) =
        let is_call : is_call_statement z.located.kind ≡ true = ap is_call_statement s.cut.is_kind ∙ s.cut.call in (
          ((λ call. ap (λ (y : LaidStatement). y.bytes) s.is), (λ call. let f : true ≡ false = sym is_call ∙ call in absurd (cc))),
          resized (o + z.bytes) (gone + (8 - sizes z.offset)) zs st,
        )
