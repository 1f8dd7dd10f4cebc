-- On every platform the memory of a linked program realizes its sources, so its run agrees with theirs.

use Rattle.std.proofs.Common.{◌≡◌, ℕ, ◌^◌, ◌<◌, Bool, true, false, List, Option, Some, None, is_some, refl, sym, ap, ◌∙◌, subst}
use Rattle.std.specs.Prelude.{◌||◌, if◌then◌else◌, IsTrue}
use Rattle.rv_list_laws.proofs.EachLemmas.{each_map}
use Rattle.rv_isa.specs.declared.instruction.Inst.{Inst}
use Rattle.rv_isa_laws.specs.Memory.{Mem, Right, Read, Write, Execute}
use Rattle.rv_isa_laws.specs.Reader.{Reader}
use Rattle.rv_isa_laws.specs.Run.{Fetched, NoRight, NoInstruction, Got, fetch}
use Rattle.rv_isa_laws.specs.Hart.{Hart, start}
use Rattle.rv_isa_laws.specs.Platform.{stack_start, stack_end}
use Rattle.rv_isa_laws.specs.Word.{Spells}
use Rattle.rv_parcel.specs.Parcel.{StandsFor}
use Rattle.rv_image_laws.specs.Image.{Image}
use Rattle.rv_image_laws.specs.Memory.{segment_at, byte_in, mem_of}
use Rattle.rv_image_laws.specs.Linked.{Linked}
use Rattle.rv_image_laws.specs.Segment.{Segment}
use Rattle.rv_image_laws.specs.Executable.{linked_image}
use Rattle.rv_board_laws.specs.Device.{Plain}
use Rattle.rv_board_laws.specs.Platform.{Platform, IsPlatform, stack_alone, memory_on}
use Rattle.rv_board_laws.specs.Virt.{ram_start, lie_in_ram, virt_run, virt_platform}
use Rattle.rv_board_laws.proofs.PlatformLemmas.{some_reader, virt_is, virt_runs}
use Rattle.rv_statement_laws.specs.Statement.{Statement}
use Rattle.rv_map_laws.specs.Map.{Map}
use Rattle.rv_source_laws.specs.Program.{Mapped, Program, program}
use Rattle.rv_source_laws.specs.Start.{is_within, is_in, right_at, first_byte, first_memory}
use Rattle.rv_source_laws.specs.SourceRun.{steps, source_run}
use Rattle.rv_chain_laws.specs.Agrees.{Agrees}
use Rattle.rv_chain_laws.specs.Contents.{IsLinked}
use Rattle.rv_chain_laws.specs.Headline.{AreBytes, RunsAgreeOn}
use Rattle.rv_chain_laws.specs.PlatformRun.{lies_at, first_memory_on, steps_on, source_run_on}
use Rattle.rv_chain_laws.specs.Realizes.{StandsIn, HoldsLines, Realizes, RealizesOn}
use Rattle.rv_runs_theorems.proofs.AlikeLemmas.{Beside}
use Rattle.rv_runs_theorems.proofs.ContentsLemmas.{realizes_linked, lies_linked, entry_low}
use Rattle.rv_runs_theorems.proofs.FetchLemmas.{fetched}
use Rattle.rv_runs_theorems.proofs.SimulationLemmas.{steps_same, plain_steps, agreement_on}

not_first : (t u v : Bool) → (t || u || v) ≡ false → t ≡ false
not_first true u v e = e
not_first false u v e = refl

no_both : {A : Type 0} (t : Bool) → t ≡ true → t ≡ false → A
no_both t e f = absurd (let g : true ≡ false = sym e ∙ f in cc)

module _ {Spells StandsFor : ℕ → Inst → Type 0} (reader : Reader Spells StandsFor) (q : Platform) (is : IsPlatform q) (p : Program) (image : Image) (r : Realizes reader (mem_of image) p) (same : (a : ℕ) → is_some (segment_at image.segments a) ≡ lies_at p.map a) where
  abbrev own : Mem
  own = mem_of image

  abbrev there : Mem
  there = memory_on q image

  -- where the program does not lie there is none of its text
  no_text : (a : ℕ) → lies_at p.map a ≡ false → is_in p.map.text a ≡ false
  no_text a = not_first (is_in p.map.text a) (is_in p.map.rodata a) (is_within p.map.data.start p.map.bss.end a)

  executes : (a : ℕ) → a < 2 ^ 64 → there.has a Execute ≡ right_at p.map a Execute
  executes a u = by (is_some (segment_at image.segments a)) refl
    where
      by : (t : Bool) → is_some (segment_at image.segments a) ≡ t → (if t then own.has a Execute else q.beside.has a Execute) ≡ right_at p.map a Execute
      by true e = r.rights a u Execute
      by false e = is.unexecuted a u ∙ sym (no_text a (sym (same a) ∙ e))

  kept : (a : ℕ) → a < 2 ^ 64 → right_at p.map a Execute ≡ true → there.byte a ≡ own.byte a
  kept a u runs = by (is_some (segment_at image.segments a)) refl
    where
      by : (t : Bool) → is_some (segment_at image.segments a) ≡ t → (if t then own.byte a else q.beside.byte a) ≡ own.byte a
      by true e = refl
      by false e = no_both (right_at p.map a Execute) runs (no_text a (sym (same a) ∙ e))

  -- what is fetched is the same
  got : (a : ℕ) (x : Fetched) → (x ≡ NoRight → ⊥) → fetch reader own a ≡ x → fetch reader there a ≡ x
  got a x other e = fetched reader (right_at p.map) own (λ b u. r.rights b u Execute) there (record { rights = executes; kept = kept }) a x other e

  holds_there : (s : Mapped) → HoldsLines reader own p s → HoldsLines reader there p s
  holds_there s k = record {
    lines = k.lines;
    are_lines = k.are_lines;
    stand = each_map (StandsIn reader own) (StandsIn reader there) k.lines (λ l stands. (got l.address (Got l.instruction l.bytes) (λ e. cc) stands.0, stands.1)) k.stand;
    below = k.below;
    fits = k.fits;
    row = k.row;
  }

  unexecuted : (a : ℕ) → a < 2 ^ 64 → right_at p.map a Execute ≡ false → (t : Bool) → (if t then right_at p.map a Execute else q.beside.has a Execute) ≡ false
  unexecuted a u e true = e
  unexecuted a u e false = is.unexecuted a u

  bytes_there : (a : ℕ) → a < 2 ^ 64 → (t : Bool) → IsTrue (if t then right_at p.map a Read else q.beside.has a Read) → (if t then own.byte a else q.beside.byte a) ≡ (if t then first_byte p a else q.beside.byte a)
  bytes_there a u true readable = r.bytes a u readable
  bytes_there a u false readable = refl

  fixed_there : (a : ℕ) → a < 2 ^ 64 → (t : Bool) → IsTrue (if t then right_at p.map a Execute else q.beside.has a Execute) → (if t then right_at p.map a Write else q.beside.has a Write) ≡ false
  fixed_there a u true runs = r.fixed a u runs
  fixed_there a u false runs = no_both (q.beside.has a Execute) runs (is.unexecuted a u)

  pub realizes_there : RealizesOn q reader there p
  realizes_there = record {
    rows = λ pc s u e. holds_there s (r.rows pc s u e);
    gaps = λ pc u even e. got pc NoInstruction (λ k. cc) (r.gaps pc u even e);
    outside = λ pc u e. unexecuted pc u (r.outside pc u e) (lies_at p.map pc);
    rights = λ a u right. ap (λ t. if t then own.has a right else q.beside.has a right) (same a) ∙ ap (λ b. if lies_at p.map a then b else q.beside.has a right) (r.rights a u right);
    bytes = λ a u readable. ap (λ t. if t then own.byte a else q.beside.byte a) (same a) ∙ bytes_there a u (lies_at p.map a) readable;
    fixed = λ a u runs. fixed_there a u (lies_at p.map a) runs;
  }

-- ---- the stack alone

-- the rights there are those of the usual memory
alone_writes : (t r w stack : Bool) → (if t || r || w then (w || stack) else stack) ≡ (w || stack)
alone_writes true r w stack = refl
alone_writes false true w stack = refl
alone_writes false false true stack = refl
alone_writes false false false stack = refl

alone_reads : (t r w stack : Bool) → (if t || r || w then (r || w || stack) else stack) ≡ (r || w || stack)
alone_reads true r w stack = refl
alone_reads false true w stack = refl
alone_reads false false true stack = refl
alone_reads false false false stack = refl

alone_executes : (t r w : Bool) → (if t || r || w then t else false) ≡ t
alone_executes true r w = refl
alone_executes false true w = refl
alone_executes false false true = refl
alone_executes false false false = refl

alone_rights : (p : Program) (a : ℕ) (right : Right) → (first_memory_on stack_alone p).has a right ≡ right_at p.map a right
alone_rights p a Execute = alone_executes (is_in p.map.text a) (is_in p.map.rodata a) (is_within p.map.data.start p.map.bss.end a)
alone_rights p a Write = alone_writes (is_in p.map.text a) (is_in p.map.rodata a) (is_within p.map.data.start p.map.bss.end a) (is_within stack_start stack_end a)
alone_rights p a Read = alone_reads (is_in p.map.text a) (is_in p.map.rodata a) (is_within p.map.data.start p.map.bss.end a) (is_within stack_start stack_end a)

no_segment : (o : Option Segment) (a : ℕ) → is_some o ≡ false → byte_in o a ≡ 0
no_segment None a e = refl
no_segment (Some s) a e = absurd (cc)

module _ {Spells StandsFor : ℕ → Inst → Type 0} (reader : Reader Spells StandsFor) (p : Program) (image : Image) (r : Realizes reader (mem_of image) p) (same : (a : ℕ) → is_some (segment_at image.segments a) ≡ lies_at p.map a) where
  -- so are the bytes, where they can be read
  alone_bytes : (a : ℕ) → a < 2 ^ 64 → right_at p.map a Read ≡ true → (first_memory_on stack_alone p).byte a ≡ first_byte p a
  alone_bytes a u readable = by (lies_at p.map a) refl
    where
      by : (t : Bool) → lies_at p.map a ≡ t → (if t then first_byte p a else 0) ≡ first_byte p a
      by true e = refl
      by false e = sym (no_segment (segment_at image.segments a) a (same a ∙ e)) ∙ r.bytes a u readable

  alone_beside : Beside (right_at p.map) (first_memory_on stack_alone p) (first_memory_on stack_alone p) (first_memory p)
  alone_beside = record { machine = λ a u right. alone_rights p a right; source = λ a u right. refl; read = alone_bytes; kept = λ a u runs. refl }

  pub alone_steps : (n : ℕ) (h : Hart) → steps_on (λ a. Plain) n p n h (first_memory_on stack_alone p) ≡ steps n p n h (first_memory p)
  alone_steps n h =
      steps_same (λ a. Plain) p (right_at p.map) r.fixed (first_memory_on stack_alone p) n n h (first_memory_on stack_alone p) (first_memory p) alone_beside
      ∙ plain_steps n p n h (first_memory p)

-- for a linked program the source run there is the usual one
pub usual_on_stack : (a : ℕ) (sources : List (List Statement)) (relax gc : Bool) (l : Linked) → IsLinked sources a relax gc l → (input : List ℕ) (n : ℕ) → source_run_on stack_alone sources l.map input n ≡ source_run sources l.map input n
usual_on_stack a sources relax gc l h input n =
    alone_steps some_reader (program sources l.map) (linked_image l) (realizes_linked sources a relax gc l h some_reader) (lies_linked sources a relax gc l h some_reader) n (start l.map.entry input)

-- ---- linked programs

-- a linked program runs on every platform as its sources do
pub linked_agrees_on : (a : ℕ) (sources : List (List Statement)) (relax gc : Bool) (l : Linked) → IsLinked sources a relax gc l → RunsAgreeOn sources l.map (linked_image l)
linked_agrees_on a sources relax gc l h q is reader input bytes n =
    agreement_on q reader (memory_on q (linked_image l)) sources l.map
    (realizes_there reader q is (program sources l.map) (linked_image l) (realizes_linked sources a relax gc l h reader) (lies_linked sources a relax gc l h reader))
    is.top (entry_low sources a relax gc l h reader) h.resolves.even input n

-- and on the board virt
pub virt_agrees : (sources : List (List Statement)) (map : Map) (image : Image) → RunsAgreeOn sources map image → lie_in_ram ram_start image.segments ≡ true → image.entry ≡ ram_start → (reader : Reader Spells StandsFor) (input : List ℕ) → AreBytes input → (n : ℕ)
    → Agrees (source_run_on virt_platform sources map input n) (virt_run reader image input n)
virt_agrees sources map image agree lie entry reader input bytes n =
    subst (λ o. Agrees (source_run_on virt_platform sources map input n) o) (sym (virt_runs reader image input n lie entry)) (agree virt_platform virt_is reader input bytes n)
