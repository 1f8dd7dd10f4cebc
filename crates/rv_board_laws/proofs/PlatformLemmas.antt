-- Two platforms: the stack alone, where runs are the usual ones, and the board virt.

use Rattle.std.proofs.Common.{◌≡◌, ℕ, ◌+◌, ◌-◌, ◌≤◌, ◌<◌, Bool, true, false, ◌&&◌, ◌||◌, nat_le, nat_lt, List, [], ◌∷◌, ◌++◌, length, Option, Some, None, is_some, inl, inr, refl, sym, ap, ◌∙◌, subst, arith}
use Rattle.std.specs.Prelude.{if◌then◌else◌, slice_index, ◌==◌, ◌%◌}
use Rattle.rv_list_laws.proofs.TruthLemmas.{or_false}
use Rattle.std.specs.List.{AllByRecursion}
use Rattle.std.specs.Option.{option_or}
use Rattle.std.proofs.lemmas.Bool.{and_parts, cases_lt}
use Rattle.std.proofs.lemmas.List.{get_or-replicate}
use Rattle.std.proofs.Math.ListN.{get_or-eq_default}
use Rattle.std.proofs.lemmas.Bool.Decides.{nat_tests}
use Rattle.std.proofs.lemmas.List.Folds.{find-append}
use Rattle.rv_isa.specs.declared.instruction.Inst.{Inst}
use Rattle.rv_isa_laws.specs.Bytes.{zeros}
use Rattle.rv_isa_laws.proofs.BytesLemmas.{zeros_long}
use Rattle.rv_isa_laws.specs.Memory.{Mem, Right, Execute}
use Rattle.rv_isa_laws.specs.Reader.{Reader}
use Rattle.rv_isa_laws.specs.Word.{Spells}
use Rattle.rv_isa_laws.proofs.ReaderLemmas.{word_read, word_read-exact}
use Rattle.rv_parcel.specs.Parcel.{StandsFor}
use Rattle.rv_parcel.proofs.ReaderLemmas.{reader, reader-exact}
use Rattle.rv_isa_laws.specs.Run.{machine_run}
use Rattle.rv_image_laws.specs.Image.{Image}
use Rattle.rv_image_laws.specs.Memory.{lies_in, segment_at, byte_in, right_in, in_stack, mem_of}
use Rattle.rv_image_laws.specs.Segment.{Segment}
use Rattle.rv_board_laws.specs.Device.{Plain, run_on}
use Rattle.rv_board_laws.specs.Platform.{IsPlatform, stack_alone, memory_on, start_on, machine_run_on}
use Rattle.rv_board_laws.specs.Virt.{virt, registers, ram_start, ram_end, segment_end, lie_in_ram, zeros_between, ram_from, with_ram, board_start, virt_run, virt_platform}
use Rattle.rv_board_laws.proofs.BesideLemmas.{plain_run}

-- a reading, where a run has to be of some
pub some_reader : Reader Spells StandsFor
some_reader = record { word = word_read; words = word_read-exact; parcel = reader; parcels = reader-exact }

-- ---- the stack alone

alone_byte : (o : Option Segment) (a : ℕ) → (if is_some o then byte_in o a else 0) ≡ byte_in o a
alone_byte None a = refl
alone_byte (Some s) a = refl

alone_right : (o : Option Segment) (a : ℕ) (right : Right) → (if is_some o then (right_in o right || in_stack a right) else in_stack a right) ≡ (right_in o right || in_stack a right)
alone_right None a right = refl
alone_right (Some s) a right = refl

alone_memory : (image : Image) → memory_on stack_alone image ≡ mem_of image
alone_memory image = λ i. record {
  byte = λ a. alone_byte (segment_at image.segments a) a i;
  has = λ a right. alone_right (segment_at image.segments a) a right i;
}

pub alone_is : IsPlatform stack_alone
alone_is = record { top = omega arith; unexecuted = λ a u. refl }

pub alone_run : {Spells StandsFor : ℕ → Inst → Type 0} (reader : Reader Spells StandsFor) (image : Image) (input : List ℕ) (n : ℕ) → machine_run_on stack_alone reader image input n ≡ machine_run reader (mem_of image) image.entry input n
alone_run reader image input n =
    ap (λ (m : Mem). run_on (λ a. Plain) reader n (start_on stack_alone image.entry input) m) (alone_memory image)
    ∙ plain_run reader n (start_on stack_alone image.entry input) (mem_of image)

-- ---- the board virt

ram_none : (from : ℕ) → ram_from from [] ≡ zeros_between from ram_end ∷ []
unfolding ram_from
ram_none from = refl

ram_more : (from : ℕ) (s : Segment) (ss : List Segment) → ram_from from (s ∷ ss) ≡ zeros_between from s.address ∷ s ∷ ram_from (segment_end s) ss
unfolding ram_from
ram_more from s ss = refl

-- the first begins here or behind, and the rest ascends from its end
pub begins_at : (from : ℕ) (s : Segment) (ss : List Segment) → lie_in_ram from (s ∷ ss) ≡ true → (from ≤ s.address) × (lie_in_ram (segment_end s) ss ≡ true)
begins_at from s ss lie =
    let parts = and_parts (nat_le from s.address) (lie_in_ram (segment_end s) ss) lie in
    let first = parts.0 in
    (grind (arith, nat_tests, first), parts.1)

-- what lies in RAM begins by its end
pub lie_ends : (from : ℕ) (ss : List Segment) → lie_in_ram from ss ≡ true → from ≤ ram_end
lie_ends from [] lie = grind (arith, nat_tests, lie)
lie_ends from (s ∷ ss) lie =
    let parts = begins_at from s ss lie in
    let first = parts.0 in
    let rest = lie_ends (segment_end s) ss parts.1 in
    omega (arith, first, rest)

-- where zeros lie
zeros_lie : (from stop a : ℕ) → lies_in (zeros_between from stop) a ≡ (nat_le from a && nat_lt a (from + (stop - from)))
zeros_lie from stop a = ap (λ n. nat_le from a && nat_lt a (from + n)) (zeros_long (stop - from))

lies_not : (s : Segment) (a : ℕ) → a < s.address → lies_in s a ≡ false
lies_not s a low = grind (arith, nat_tests, low)

module _ (a : ℕ) where
  -- no segment lies before where they begin
  none_before : (from : ℕ) (ss : List Segment) → lie_in_ram from ss ≡ true → a < from → segment_at ss a ≡ None
  none_before from [] lie low = refl
  none_before from (s ∷ ss) lie low =
      let parts = begins_at from s ss lie in
      let at = parts.0 in
      let here : a < s.address = omega (arith, low, at) in
      let there : a < segment_end s = omega (arith, here) in
      ap (λ b. if b then Some s else segment_at ss a) (lies_not s a here) ∙ none_before (segment_end s) ss parts.1 there

  -- in the zeros before a segment, which are zeros of RAM
  in_front : (from stop : ℕ) → stop ≤ ram_end → lies_in (zeros_between from stop) a ≡ true → (a < stop) × (lies_in (zeros_between from ram_end) a ≡ true)
  in_front from stop le inside =
      let e : (nat_le from a && nat_lt a (from + (stop - from))) ≡ true = sym (zeros_lie from stop a) ∙ inside in
      let whole : (nat_le from a && nat_lt a (from + (ram_end - from))) ≡ true = grind (arith, nat_tests, e, le) in
      (grind (arith, nat_tests, e), zeros_lie from ram_end a ∙ whole)

  -- in neither of them: it lies in the RAM behind the segment where it lies in that before
  behind : (from : ℕ) (s : Segment) → from ≤ s.address → segment_end s ≤ ram_end → lies_in (zeros_between from s.address) a ≡ false → lies_in s a ≡ false → lies_in (zeros_between (segment_end s) ram_end) a ≡ lies_in (zeros_between from ram_end) a
  behind from s le end e f =
      let before : (nat_le from a && nat_lt a (from + (s.address - from))) ≡ false = sym (zeros_lie from s.address a) ∙ e in
      zeros_lie (segment_end s) ram_end a ∙ same (length s.bytes) s.address f before le end ∙ sym (zeros_lie from ram_end a)
    where
      same : (n b : ℕ) → (nat_le b a && nat_lt a (b + n)) ≡ false → (nat_le from a && nat_lt a (from + (b - from))) ≡ false → from ≤ b → b + n ≤ ram_end
          → (nat_le (b + n) a && nat_lt a (b + n + (ram_end - (b + n)))) ≡ (nat_le from a && nat_lt a (from + (ram_end - from)))
      same n b f g le end = grind (arith, nat_tests, f, g, le, end)

  -- a look at memory that sees all zeros alike
  module _ {X : Type 0} (look : Option Segment → X) (blank : (b c d e : ℕ) → look (Some (zeros_between b c)) ≡ look (Some (zeros_between d e))) where
    zeros_look : (t : Bool) (b c : ℕ) → look (if t then Some (zeros_between b ram_end) else None) ≡ look (if t then Some (zeros_between c ram_end) else None)
    zeros_look true b c = blank b ram_end c ram_end
    zeros_look false b c = refl

    abbrev empty : ℕ → X
    empty from = look (segment_at (zeros_between from ram_end ∷ []) a)

    abbrev own : List Segment → X → X
    own ss other = if is_some (segment_at ss a) then look (segment_at ss a) else other

    -- RAM with segments looks as they do, and elsewhere as RAM without them
    ram_looks : (from : ℕ) (ss : List Segment) → lie_in_ram from ss ≡ true → look (segment_at (ram_from from ss) a) ≡ own ss (empty from)
    ram_looks from [] lie = ap (λ rs. look (segment_at rs a)) (ram_none from)
    ram_looks from (s ∷ ss) lie =
        ap (λ rs. look (segment_at rs a)) (ram_more from s ss)
        ∙ by (ram_looks (segment_end s) ss (begins_at from s ss lie).1) (lies_in (zeros_between from s.address) a) (lies_in s a) refl refl
      where
        parts : (from ≤ s.address) × (lie_in_ram (segment_end s) ss ≡ true)
        parts = begins_at from s ss lie

        ends : segment_end s ≤ ram_end
        ends = lie_ends (segment_end s) ss parts.1

        starts : s.address ≤ ram_end
        starts = omega (arith, ends)

        none : a < s.address → own ss (empty from) ≡ empty from
        none low =
            let there : a < segment_end s = omega (arith, low) in
            ap (λ o. if is_some o then look o else empty from) (none_before (segment_end s) ss parts.1 there)

        by : look (segment_at (ram_from (segment_end s) ss) a) ≡ own ss (empty (segment_end s)) → (t u : Bool) → lies_in (zeros_between from s.address) a ≡ t → lies_in s a ≡ u
            → look (if t then Some (zeros_between from s.address) else if u then Some s else segment_at (ram_from (segment_end s) ss) a)
            ≡ (if is_some (if u then Some s else segment_at ss a) then look (if u then Some s else segment_at ss a) else empty from)
        by rest true true e f =
            let low = (in_front from s.address starts e).0 in
            absurd (let g : true ≡ false = sym f ∙ lies_not s a low in cc)
        by rest true false e f =
            let front = in_front from s.address starts e in
            blank from s.address from ram_end
            ∙ ap (λ b. look (if b then Some (zeros_between from ram_end) else None)) (sym front.1)
            ∙ sym (none front.0)
        by rest false true e f = refl
        by rest false false e f =
            rest
            ∙ ap (λ x. own ss x) (ap (λ b. look (if b then Some (zeros_between (segment_end s) ram_end) else None)) (behind from s parts.0 ends e f)
            ∙ zeros_look (lies_in (zeros_between from ram_end) a) (segment_end s) from)

    -- the registers lie before RAM
    registers_low : (r : Segment) → segment_at registers a ≡ Some r → a < ram_start
    registers_low r e = by (lies_in first a) (lies_in second a) (lies_in third a) refl refl refl e
      where
        first : Segment
        first = record { address = 0x1000_0001; bytes = 0 ∷ []; flags = 6 }

        second : Segment
        second = record { address = 0x1000_0003; bytes = 0 ∷ 8 ∷ 0x61 ∷ []; flags = 6 }

        third : Segment
        third = record { address = 0x1000_0007; bytes = 0 ∷ []; flags = 6 }

        by : (t u v : Bool) → lies_in first a ≡ t → lies_in second a ≡ u → lies_in third a ≡ v → (if t then Some first else if u then Some second else if v then Some third else None) ≡ Some r → a < ram_start
        by true u v e f g is = grind (arith, nat_tests, e)
        by false true v e f g is = grind (arith, nat_tests, f)
        by false false true e f g is = grind (arith, nat_tests, g)
        by false false false e f g is = absurd (cc)

    -- so does all of the board
    board_looks : (ss : List Segment) → lie_in_ram ram_start ss ≡ true → look (segment_at (registers ++ ram_from ram_start ss) a) ≡ own ss (look (segment_at (registers ++ ram_from ram_start []) a))
    board_looks ss lie =
        ap look (find-append (λ s. lies_in s a) registers (ram_from ram_start ss))
        ∙ by (segment_at registers a) refl
        ∙ ap (λ x. own ss x) (ap look (sym (find-append (λ s. lies_in s a) registers (ram_from ram_start []))))
      where
        by : (o : Option Segment) → segment_at registers a ≡ o → look (option_or o (segment_at (ram_from ram_start ss) a)) ≡ own ss (look (option_or o (segment_at (ram_from ram_start []) a)))
        by (Some r) e = ap (λ o. if is_some o then look o else look (Some r)) (sym (none_before ram_start ss lie (registers_low r e)))
        by None e = ram_looks ram_start ss lie ∙ ap (λ rs. own ss (look (segment_at rs a))) (sym (ram_none ram_start))

pub zero_index : (k n : ℕ) → slice_index (zeros k) n ≡ 0
zero_index k n = elim (cases_lt n k) [
  | inl inside ↦ get_or-replicate {A = ℕ} k n 0 0 inside
  | inr past ↦ get_or-eq_default (zeros k) 0 {n = n} (subst (λ x. x ≤ n) (sym (zeros_long k)) past)
]

blank_byte : (a b c d e : ℕ) → byte_in (Some (zeros_between b c)) a ≡ byte_in (Some (zeros_between d e)) a
blank_byte a b c d e = zero_index (c - b) (a - b) ∙ sym (zero_index (e - d) (a - d))

board_memory : (image : Image) → lie_in_ram ram_start image.segments ≡ true → mem_of (with_ram image) ≡ memory_on virt_platform image
board_memory image lie = λ i. record {
  byte = λ a. board_looks a (λ o. byte_in o a) (blank_byte a) image.segments lie i;
  has = λ a right. board_looks a (λ o. right_in o right || in_stack a right) (λ b c d e. refl) image.segments lie i;
}

-- what can be read and written alone is not executed
not_executed : (ss : List Segment) (a : ℕ) → AllByRecursion (λ s. s.flags ≡ 6) ss → right_in (segment_at ss a) Execute ≡ false
not_executed [] a all = refl
not_executed (s ∷ ss) a (flags, all) = by (lies_in s a) (not_executed ss a all)
  where
    by : (t : Bool) → right_in (segment_at ss a) Execute ≡ false → right_in (if t then Some s else segment_at ss a) Execute ≡ false
    by true rest = ap (λ n. n % 2 == 1) flags
    by false rest = rest

virt_unexecuted : (a : ℕ) → virt_platform.beside.has a Execute ≡ false
virt_unexecuted a =
    or_false _
    ∙ ap (λ rs. right_in (segment_at (registers ++ rs) a) Execute) (ram_none ram_start)
    ∙ not_executed (registers ++ zeros_between ram_start ram_end ∷ []) a (refl, (refl, (refl, (refl, tt))))

pub virt_is : IsPlatform virt_platform
virt_is = record { top = omega arith; unexecuted = λ a u. virt_unexecuted a }

pub virt_runs : {Spells StandsFor : ℕ → Inst → Type 0} (reader : Reader Spells StandsFor) (image : Image) (input : List ℕ) (n : ℕ) → lie_in_ram ram_start image.segments ≡ true → image.entry ≡ ram_start → virt_run reader image input n ≡ machine_run_on virt_platform reader image input n
virt_runs reader image input n lie entry =
    ap (λ (m : Mem). run_on virt reader n (board_start input) m) (board_memory image lie)
    ∙ ap (λ e. run_on virt reader n (start_on virt_platform e input) (memory_on virt_platform image)) (sym entry)
