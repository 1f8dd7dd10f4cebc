-- What is left of a section: its statements still follow one another, and have their bytes, sizes and relocations.

use Rattle.std.proofs.Common.{◌≡◌, ℕ, zero, suc, ◌+◌, ◌-◌, ◌%◌, ◌≤◌, ◌<◌, Bool, true, false, List, [], ◌∷◌, ◌++◌, length, length-append, map, take, drop, refl, sym, ap, ◌∙◌, subst, arith, inl, inr, mod-eq_of_lt}
use Rattle.std.proofs.lemmas.List.{append-nil}
use Rattle.std.proofs.lemmas.Bool.{ltb-true, ltb-false}
use Rattle.std.specs.Prelude.{not, nat_lt, max, if◌then◌else◌, filter, flat_map}
use Rattle.std.specs.List.{AllByRecursion}
use Rattle.rv_list_laws.proofs.EachLemmas.{each_split, each_append}
use Rattle.rv_list_laws.proofs.TakeDropLemmas.{drop_front}
use Rattle.rv_size_laws.specs.Alignment.{aligned}
use Rattle.rv_unit_laws.specs.Sections.{Section as SourceSection}
use Rattle.rv_unit_laws.specs.Tables.{Tables}
use Rattle.rv_object_laws.specs.Object.{Relocation}
use Rattle.rv_object_laws.specs.Padding.{no_operations}
use Rattle.rv_object_laws.proofs.NopsLemmas.{length_even}
use Rattle.rv_link_laws.specs.Moves.{Move, new_offset, kept, has_padding, alignment_of, plan}
use Rattle.rv_link_laws.specs.Inputs.{raised}
use Rattle.rv_assemble_laws.specs.Templates.{Fixed, Open, template_fields}
use Rattle.rv_assemble_laws.specs.LaidStatements.{LaidStatement, LaidPart, expression_value, laid_part, part_bytes, end_of}
use Rattle.rv_sources_link_theorems.proofs.sections.AssembledLemmas.{parts_of, parts, assembled_templates}
use Rattle.rv_assemble_laws.specs.IsObjectOf.{Numbering, relocation_at, relocations_from}
use Rattle.rv_assemble_laws.proofs.FilledLemmas.{bytes_append}
use Rattle.rv_sources_link_theorems.proofs.moves.ShrunkLemmas as shrunk
use Rattle.rv_sources_link_theorems.proofs.moves.ShrinkingLemmas.{shrunk_relocation, shrunk_relocations}
use Rattle.rv_sources_link_theorems.proofs.statements.PadsLemmas.{by_power}
use Rattle.rv_sources_link_theorems.proofs.moves.WalkLemmas as walk
use Rattle.rv_sources_link_theorems.proofs.moves.WalkLemmas.{Ahead, plan_ahead, align_at, alignment_is, kept_front, relocations_join, parts_none, of_ordinal, pads, pads_past, pads_plain, pads_pad, pad_parts}

-- ---- the bytes of paddings

padding_long : (o b : ℕ) → b % 2 ≡ 0 → b ≡ length (flat_map part_bytes (map (laid_part o) (shrunk.padding_templates true b)))
padding_long o zero even = refl
padding_long o (suc n) even = sym (ap length (append-nil (no_operations (suc n))) ∙ length_even (suc n) even)

padding_said : (o b : ℕ) → flat_map part_bytes (map (laid_part o) (shrunk.padding_templates true b)) ≡ no_operations b
padding_said o zero = refl
padding_said o (suc n) = append-nil (no_operations (suc n))

-- ---- relocations

shrunk_join : (ms : List Move) (xs ys : List Relocation) → shrunk_relocations ms (xs ++ ys) ≡ shrunk_relocations ms xs ++ shrunk_relocations ms ys
shrunk_join ms [] ys = refl
shrunk_join ms (x ∷ xs) ys = go (has_padding x) (shrunk_join ms xs ys)
  where
    go : (b : Bool) → map (shrunk_relocation ms) (filter (λ r. not (has_padding r)) (xs ++ ys)) ≡ shrunk_relocations ms xs ++ shrunk_relocations ms ys
        → map (shrunk_relocation ms) (if not b then x ∷ filter (λ r. not (has_padding r)) (xs ++ ys) else filter (λ r. not (has_padding r)) (xs ++ ys))
        ≡ map (shrunk_relocation ms) (if not b then x ∷ filter (λ r. not (has_padding r)) xs else filter (λ r. not (has_padding r)) xs) ++ shrunk_relocations ms ys
    go true ih = ih
    go false ih = ap (λ (l : List Relocation). shrunk_relocation ms x ∷ l) ih

none_join : (xs ys : List Relocation) → filter has_padding (xs ++ ys) ≡ [] → (filter has_padding xs ≡ []) × (filter has_padding ys ≡ [])
none_join [] ys e = (refl, e)
none_join (x ∷ xs) ys e = go (has_padding x) e (none_join xs ys)
  where
    go : (b : Bool) → (if b then x ∷ filter has_padding (xs ++ ys) else filter has_padding (xs ++ ys)) ≡ []
        → (filter has_padding (xs ++ ys) ≡ [] → (filter has_padding xs ≡ []) × (filter has_padding ys ≡ []))
        → ((if b then x ∷ filter has_padding xs else filter has_padding xs) ≡ []) × (filter has_padding ys ≡ [])
    go true e ih = absurd (cc)
    go false e ih = ih e

module _ (number : Numbering) (ms : List Move) where
  -- fields at a place
  fields_moved : (a c : ℕ) (fs : List Open) → new_offset ms a ≡ c → filter has_padding (map (relocation_at number a) fs) ≡ []
      → shrunk_relocations ms (map (relocation_at number a) fs) ≡ map (relocation_at number c) fs
  fields_moved a c [] e none = refl
  fields_moved a c (f ∷ fs) e none = go (has_padding (relocation_at number a f)) none (λ h. fields_moved a c fs e h)
    where
      rest : List Relocation
      rest = map (relocation_at number a) fs

      go : (b : Bool) → (if b then relocation_at number a f ∷ filter has_padding (map (relocation_at number a) fs) else filter has_padding (map (relocation_at number a) fs)) ≡ []
          → (filter has_padding (map (relocation_at number a) fs) ≡ [] → shrunk_relocations ms (map (relocation_at number a) fs) ≡ map (relocation_at number c) fs)
          → map (shrunk_relocation ms) (if not b then relocation_at number a f ∷ filter (λ r. not (has_padding r)) (map (relocation_at number a) fs) else filter (λ r. not (has_padding r)) (map (relocation_at number a) fs))
          ≡ map (relocation_at number c) (f ∷ fs)
      go true h ih = absurd (cc)
      go false h ih = ap (λ n. relocation_at number n f ∷ shrunk_relocations ms (map (relocation_at number a) fs)) e ∙ ap (λ l. relocation_at number c f ∷ l) (ih h)

  -- the parts of a statement whose bytes stay
  parts_moved : (a c : ℕ) (ps : List LaidPart) → ((d : ℕ) → d ≤ length (flat_map part_bytes ps) → new_offset ms (a + d) ≡ c + d) → filter has_padding (relocations_from number a ps) ≡ []
      → shrunk_relocations ms (relocations_from number a ps) ≡ relocations_from number c ps
  parts_moved a c [] shift none = refl
  parts_moved a c (p ∷ ps) shift none =
      let own = map (relocation_at number a) (template_fields p.ordinal p.template) in
      let next = a + length (part_bytes p) in
      let parts = none_join own (relocations_from number next ps) none in
      let long : length (part_bytes p ++ flat_map part_bytes ps) ≡ length (part_bytes p) + length (flat_map part_bytes ps) = length-append (part_bytes p) (flat_map part_bytes ps) in
      let first : new_offset ms a ≡ c = ap (new_offset ms) (let e : a ≡ a + 0 = omega arith in e) ∙ shift 0 (omega arith) ∙ (let e : c + 0 ≡ c = omega arith in e) in
      shrunk_join ms own (relocations_from number next ps)
      ∙ ap (λ l. l ++ shrunk_relocations ms (relocations_from number next ps)) (fields_moved a c (template_fields p.ordinal p.template) first parts.0)
      ∙ ap (λ l. map (relocation_at number c) (template_fields p.ordinal p.template) ++ l)
      (parts_moved next (c + length (part_bytes p)) ps
      (λ d l. ap (new_offset ms) (let e : next + d ≡ a + (length (part_bytes p) + d) = omega arith in e) ∙ shift (length (part_bytes p) + d) (omega (arith, l, long))
      ∙ (let e : c + (length (part_bytes p) + d) ≡ c + length (part_bytes p) + d = omega arith in e)) parts.1)

-- ---- the walk

module _ (t : Tables) (number : Numbering) (section : SourceSection) (multiple : ℕ) (start : ℕ) (ms : List Move)
    (begins : (m : ℕ) → 0 < m → multiple % m ≡ 0 → section.executable ≡ true → start % m ≡ 0) where
  abbrev pub S : LaidStatement → LaidStatement
  S z = walk.statement_by t number section multiple start ms begins z

  abbrev pub Steps : ℕ → ℕ → List LaidStatement → Type 0
  Steps o gone zs = walk.Steps t number section multiple start ms begins o gone zs

  abbrev PlainStep : ℕ → ℕ → LaidStatement → Type 0
  PlainStep o gone z = walk.PlainStep t number section multiple start ms begins o gone z

  abbrev PadStep : ℕ → ℕ → LaidStatement → Type 0
  PadStep o gone z = walk.PadStep t number section multiple start ms begins o gone z

  own_plain : (o gone : ℕ) (z : LaidStatement) → PlainStep o gone z → shrunk.parts_of t (S z) ≡ parts_of t z
  own_plain o gone z s = ap (shrunk.parts_of t) s.plain_is ∙ ap (map (laid_part z.located.ordinal)) (s.plain_kind.same (o - gone))

  own_pad : (o gone : ℕ) (z : LaidStatement) (s : PadStep o gone z) → shrunk.parts_of t (S z) ≡ map (laid_part z.located.ordinal) (shrunk.padding_templates true s.least)
  own_pad o gone z s = ap (shrunk.parts_of t) s.pad_is ∙ ap (map (laid_part z.located.ordinal)) (s.pad_kind.is (o - gone) s.least)

  next_plain : (o gone b : ℕ) → gone ≤ o → o + b - gone ≡ (o - gone) + b
  next_plain o gone b low = omega (arith, low)

  next_pad : (o gone b n : ℕ) → gone ≤ o → n ≤ b → o + b - (gone + (b - n)) ≡ (o - gone) + n
  next_pad o gone b n low fit = omega (arith, low, fit)

  -- they follow one another
  pub tiled : (o gone : ℕ) (zs : List LaidStatement) → Steps o gone zs → shrunk.Tile t (o - gone) (map S zs)
  tiled o gone [] st = tt
  tiled o gone (z ∷ zs) (off, bytes, low, evens, inl (s, st)) =
      let long : (S z).bytes ≡ z.bytes = ap (λ (y : LaidStatement). y.bytes) s.plain_is in (
        ap (λ (y : LaidStatement). y.offset) s.plain_is,
        long ∙ bytes ∙ ap (λ l. length (flat_map part_bytes l)) (sym (own_plain o gone z s)),
        subst (λ n. shrunk.Tile t n (map S zs)) (next_plain o gone z.bytes low ∙ ap (λ n. (o - gone) + n) (sym long)) (tiled (o + z.bytes) gone zs st),
      )
  tiled o gone (z ∷ zs) (off, bytes, low, evens, inr (s, st)) =
      let long : (S z).bytes ≡ s.least = ap (λ (y : LaidStatement). y.bytes) s.pad_is in (
        ap (λ (y : LaidStatement). y.offset) s.pad_is,
        long ∙ padding_long z.located.ordinal s.least s.least_even ∙ ap (λ l. length (flat_map part_bytes l)) (sym (own_pad o gone z s)),
        subst (λ n. shrunk.Tile t n (map S zs)) (next_pad o gone z.bytes s.least low s.fits ∙ ap (λ n. (o - gone) + n) (sym long))
            (tiled (o + z.bytes) (gone + (z.bytes - s.least)) zs st),
      )

  -- their end
  pub ended : (o gone : ℕ) (zs : List LaidStatement) → Steps o gone zs → new_offset ms (end_of o zs) ≡ end_of (o - gone) (map S zs)
  ended o gone [] st = st
  ended o gone (z ∷ zs) (off, bytes, low, evens, inl (s, st)) =
      ended (o + z.bytes) gone zs st
      ∙ ap (λ n. end_of n (map S zs)) (next_plain o gone z.bytes low ∙ ap (λ n. (o - gone) + n) (sym (ap (λ (y : LaidStatement). y.bytes) s.plain_is)))
  ended o gone (z ∷ zs) (off, bytes, low, evens, inr (s, st)) =
      ended (o + z.bytes) (gone + (z.bytes - s.least)) zs st
      ∙ ap (λ n. end_of n (map S zs)) (next_pad o gone z.bytes s.least low s.fits ∙ ap (λ n. (o - gone) + n) (sym (ap (λ (y : LaidStatement). y.bytes) s.pad_is)))

  -- what is kept of the section
  pub bytes_kept : (o gone : ℕ) (zs : List LaidStatement) → Steps o gone zs
      → kept o (plan start gone (pads t number o zs)) (flat_map part_bytes (parts t zs)) ≡ flat_map part_bytes (shrunk.parts t (map S zs))
  bytes_kept o gone [] st = refl
  bytes_kept o gone (z ∷ zs) (off, bytes, low, evens, inl (s, st)) =
      let own = flat_map part_bytes (parts_of t z) in
      let rest = flat_map part_bytes (parts t zs) in
      let later = plan start gone (pads t number (o + z.bytes) zs) in
      let ahead : Ahead (o + length own) later = subst (λ n. Ahead (o + n) later) bytes (plan_ahead (o + z.bytes) start gone (pads t number (o + z.bytes) zs) (pads_past t number (o + z.bytes) zs)) in
      ap (λ rs. kept o (plan start gone rs) (flat_map part_bytes (parts t (z ∷ zs)))) (pads_plain t number section multiple o z zs bytes s.plain_kind)
      ∙ ap (kept o later) (bytes_append (parts_of t z) (parts t zs))
      ∙ kept_front o later own rest ahead
      ∙ ap (λ n. own ++ kept (o + n) later rest) (sym bytes)
      ∙ ap (λ l. own ++ l) (bytes_kept (o + z.bytes) gone zs st)
      ∙ ap (λ l. flat_map part_bytes l ++ flat_map part_bytes (shrunk.parts t (map S zs))) (sym (own_plain o gone z s))
      ∙ sym (bytes_append (shrunk.parts_of t (S z)) (shrunk.parts t (map S zs)))
  bytes_kept o gone (z ∷ zs) (off, bytes, low, evens, inr (s, st)) =
      let own = flat_map part_bytes (parts_of t z) in
      let rest = flat_map part_bytes (parts t zs) in
      let stands = start + (o - gone) in
      let L = aligned (alignment_of (align_at o z.bytes)) stands - stands in
      let after : ℕ → List Move = λ n. plan start (gone + (z.bytes - n)) (pads t number (o + z.bytes) zs) in
      ap (λ rs. kept o (plan start gone rs) (flat_map part_bytes (parts t (z ∷ zs)))) (pads_pad t number section multiple o z zs bytes s.pad_kind)
      ∙ ap (λ l. take (o - o) l ++ (no_operations L ++ kept (o + z.bytes) (after L) (drop (o + z.bytes - o) l))) (bytes_append (parts_of t z) (parts t zs))
      ∙ ap (λ n. take n (own ++ rest) ++ (no_operations L ++ kept (o + z.bytes) (after L) (drop (o + z.bytes - o) (own ++ rest)))) (let e : o - o ≡ 0 = omega arith in e)
      ∙ ap (λ l. l ++ (no_operations L ++ kept (o + z.bytes) (after L) (drop (o + z.bytes - o) (own ++ rest)))) (none_taken (own ++ rest))
      ∙ ap (λ n. no_operations L ++ kept (o + z.bytes) (after L) (drop n (own ++ rest))) ((let e : o + z.bytes - o ≡ z.bytes = omega arith in e) ∙ bytes)
      ∙ ap (λ l. no_operations L ++ kept (o + z.bytes) (after L) l) (drop_front own rest)
      ∙ ap (λ n. no_operations n ++ kept (o + z.bytes) (after n) rest) s.chosen
      ∙ ap (λ l. no_operations s.least ++ l) (bytes_kept (o + z.bytes) (gone + (z.bytes - s.least)) zs st)
      ∙ ap (λ l. l ++ flat_map part_bytes (shrunk.parts t (map S zs))) (sym (padding_said z.located.ordinal s.least) ∙ ap (flat_map part_bytes) (sym (own_pad o gone z s)))
      ∙ sym (bytes_append (shrunk.parts_of t (S z)) (shrunk.parts t (map S zs)))
    where
      none_taken : (l : List ℕ) → take 0 l ≡ []
      none_taken [] = refl
      none_taken (x ∷ l) = refl

  -- its relocations
  pub relocations_kept : (o gone : ℕ) (zs : List LaidStatement) → Steps o gone zs
      → shrunk_relocations ms (relocations_from number o (parts t zs)) ≡ relocations_from number (o - gone) (shrunk.parts t (map S zs))
  relocations_kept o gone [] st = refl
  relocations_kept o gone (z ∷ zs) (off, bytes, low, evens, inl (s, st)) =
      let own = parts_of t z in
      let later = shrunk.parts t (map S zs) in
      let none = parts_none t number o own (of_ordinal t number z.located.ordinal (assembled_templates t z z.located.kind) s.plain_kind.none) in
      ap (shrunk_relocations ms) (relocations_join t number o own (parts t zs))
      ∙ shrunk_join ms (relocations_from number o own) (relocations_from number (o + length (flat_map part_bytes own)) (parts t zs))
      ∙ ap (λ l. l ++ shrunk_relocations ms (relocations_from number (o + length (flat_map part_bytes own)) (parts t zs)))
      (parts_moved number ms o (o - gone) own (λ d l. s.shift d (subst (λ n. d ≤ n) (sym bytes) l)) none)
      ∙ ap (λ n. relocations_from number (o - gone) own ++ shrunk_relocations ms (relocations_from number (o + n) (parts t zs))) (sym bytes)
      ∙ ap (λ l. relocations_from number (o - gone) own ++ l) (relocations_kept (o + z.bytes) gone zs st)
      ∙ ap (λ n. relocations_from number (o - gone) own ++ relocations_from number n later) (next_plain o gone z.bytes low ∙ ap (λ n. (o - gone) + n) bytes)
      ∙ sym (relocations_join t number (o - gone) own later)
      ∙ ap (λ l. relocations_from number (o - gone) (l ++ later)) (sym (own_plain o gone z s))
  relocations_kept o gone (z ∷ zs) (off, bytes, low, evens, inr (s, st)) =
      let later = shrunk.parts t (map S zs) in
      let n = o - gone in
      let rest = relocations_from number (o + z.bytes) (parts t zs) in
      ap (shrunk_relocations ms) (relocations_join t number o (parts_of t z) (parts t zs))
      ∙ ap (λ m. shrunk_relocations ms (relocations_from number o (parts_of t z) ++ relocations_from number (o + m) (parts t zs))) (sym bytes)
      ∙ ap (λ l. shrunk_relocations ms (relocations_from number o l ++ rest)) (pad_parts t number section multiple z s.pad_kind)
      ∙ shrunk_join ms (align_at o z.bytes ∷ []) rest
      ∙ ap (λ l. l ++ shrunk_relocations ms rest) gone_there
      ∙ relocations_kept (o + z.bytes) (gone + (z.bytes - s.least)) zs st
      ∙ ap (λ m. relocations_from number m later) (next_pad o gone z.bytes s.least low s.fits)
      ∙ unmarked z.located.ordinal n s.least later s.least_even
      ∙ ap (λ l. relocations_from number n (l ++ later)) (sym (own_pad o gone z s))
    where
      gone_there : shrunk_relocations ms (align_at o z.bytes ∷ []) ≡ []
      gone_there =
          let full = s.pad_kind.full in
          let some = by_power (λ a. 0 < a - 2) (omega arith) (omega arith) (omega arith) (omega arith) (omega arith) (omega arith) (omega arith) (omega arith) (omega arith) (omega arith) (omega arith) s.pad_kind.a s.pad_kind.power in
          ap (λ b. map (shrunk_relocation ms) (if not b then align_at o z.bytes ∷ [] else [])) (test z.bytes (omega (arith, full, some)))
        where
          test : (m : ℕ) → 0 < m → nat_lt 0 m ≡ true
          test m h = walk.some_true m h

      unmarked : (ordinal n b : ℕ) (later : List LaidPart) → b % 2 ≡ 0
          → relocations_from number (n + b) later ≡ relocations_from number n (map (laid_part ordinal) (shrunk.padding_templates true b) ++ later)
      unmarked ordinal n zero later even = ap (λ m. relocations_from number m later) (let e : n + 0 ≡ n = omega arith in e)
      unmarked ordinal n (suc b) later even = ap (λ m. relocations_from number (n + m) later) (sym (length_even (suc b) even))

  -- sizes
  pub sizes_kept : (o gone : ℕ) (zs : List LaidStatement) → Steps o gone zs
      → AllByRecursion (λ (y : LaidStatement). y.located.placed ≡ true → shrunk.HasShrunkSize (expression_value t y.located) y multiple y.located.kind) (map S zs)
  sizes_kept o gone [] st = tt
  sizes_kept o gone (z ∷ zs) (off, bytes, low, evens, inl (s, st)) = (
    subst (λ (y : LaidStatement). y.located.placed ≡ true → shrunk.HasShrunkSize (expression_value t y.located) y multiple y.located.kind) (sym s.plain_is)
        (λ placed. s.plain_kind.sized (o - gone) s.aside placed),
    sizes_kept (o + z.bytes) gone zs st,
  )
  sizes_kept o gone (z ∷ zs) (off, bytes, low, evens, inr (s, st)) = (
    subst (λ (y : LaidStatement). y.located.placed ≡ true → shrunk.HasShrunkSize (expression_value t y.located) y multiple y.located.kind) (sym s.pad_is)
        (λ placed. s.pad_kind.sized (o - gone) s.least s.pads_to s.least_even),
    sizes_kept (o + z.bytes) (gone + (z.bytes - s.least)) zs st,
  )

  -- what holds of each part and of bytes alone
  pub parts_kept : (P : LaidPart → Type 0) → ((ordinal : ℕ) (bytes : List ℕ) → P (laid_part ordinal (Fixed bytes))) → (o gone : ℕ) (zs : List LaidStatement) → Steps o gone zs
      → AllByRecursion P (parts t zs) → AllByRecursion P (shrunk.parts t (map S zs))
  parts_kept P fixed o gone [] st h = tt
  parts_kept P fixed o gone (z ∷ zs) (off, bytes, low, evens, inl (s, st)) h =
      let both = each_split P (parts_of t z) (parts t zs) h in
      each_append P (shrunk.parts_of t (S z)) (shrunk.parts t (map S zs)) (subst (λ l. AllByRecursion P l) (sym (own_plain o gone z s)) both.0) (parts_kept P fixed (o + z.bytes) gone zs st both.1)
  parts_kept P fixed o gone (z ∷ zs) (off, bytes, low, evens, inr (s, st)) h =
      let both = each_split P (parts_of t z) (parts t zs) h in
      each_append P (shrunk.parts_of t (S z)) (shrunk.parts t (map S zs)) (subst (λ l. AllByRecursion P l) (sym (own_pad o gone z s)) (of_padding s.least))
      (parts_kept P fixed (o + z.bytes) (gone + (z.bytes - s.least)) zs st both.1)
    where
      of_padding : (b : ℕ) → AllByRecursion P (map (laid_part z.located.ordinal) (shrunk.padding_templates true b))
      of_padding zero = tt
      of_padding (suc n) = (fixed z.located.ordinal (no_operations (suc n)), tt)

  -- even offsets
  pub evens_kept : (o gone : ℕ) (zs : List LaidStatement) → Steps o gone zs
      → AllByRecursion (λ (z : LaidStatement). section.executable ≡ true → (z.offset % 2 ≡ 0) × (new_offset ms z.offset % 2 ≡ 0)) zs
  evens_kept o gone [] st = tt
  evens_kept o gone (z ∷ zs) (off, bytes, low, evens, inl (s, st)) = (
    (λ code. (ap (λ n. n % 2) off ∙ (evens code).0, ap (λ (y : LaidStatement). y.offset % 2) s.plain_is ∙ (evens code).1)),
    evens_kept (o + z.bytes) gone zs st,
  )
  evens_kept o gone (z ∷ zs) (off, bytes, low, evens, inr (s, st)) = (
    (λ code. (ap (λ n. n % 2) off ∙ (evens code).0, ap (λ (y : LaidStatement). y.offset % 2) s.pad_is ∙ (evens code).1)),
    evens_kept (o + z.bytes) (gone + (z.bytes - s.least)) zs st,
  )

-- ---- alignments

-- a divisor is no greater
divisor : (a n : ℕ) → 1 ≤ n → n % a ≡ 0 → a ≤ n
divisor a n some h = go (nat_lt n a) refl
  where
    go : (b : Bool) → nat_lt n a ≡ b → a ≤ n
    go true e = let same : n % a ≡ n = mod-eq_of_lt (ltb-true n a e) in absurd (omega (arith, same, h, some))
    go false e = let l = ltb-false n a e in omega (arith, l)

pub raised_none : (t : Tables) (number : Numbering) (section : SourceSection) (multiple M : ℕ) → 1 ≤ multiple → multiple ≤ M → (o : ℕ) (zs : List LaidStatement) → walk.Tile t o zs
    → AllByRecursion (walk.Sorted t number section multiple) zs → raised (pads t number o zs) M ≡ M
raised_none t number section multiple M some low o [] tile h = refl
raised_none t number section multiple M some low o (z ∷ zs) (off, bytes, tile) (inl h, hs) =
    ap (λ rs. raised rs M) (pads_plain t number section multiple o z zs bytes h) ∙ raised_none t number section multiple M some low (o + z.bytes) zs tile hs
raised_none t number section multiple M some low o (z ∷ zs) (off, bytes, tile) (inr h, hs) =
    let least = divisor h.a multiple some h.divides in
    ap (λ rs. raised rs M) (pads_pad t number section multiple o z zs bytes h)
    ∙ ap (λ n. max (alignment_of (align_at o z.bytes)) n) (raised_none t number section multiple M some low (o + z.bytes) zs tile hs)
    ∙ ap (λ n. max n M) (ap (λ n. alignment_of (align_at o n)) h.full ∙ alignment_is o h.a h.power)
    ∙ (let a = h.a in let e : max a M ≡ M = omega (arith, least, low) in e)
