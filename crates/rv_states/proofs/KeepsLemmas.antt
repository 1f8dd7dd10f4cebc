-- What no step of a run changes, and no piece of a snapshot.

use Rattle.std.proofs.Common.{◌≡◌, ℕ, zero, suc, ◌+◌, ◌%◌, ◌^◌, Bool, true, false, ◌||◌, ◌&&◌, List, [], ◌∷◌, length, length-take, take, drop, Option, Some, None, refl, sym, ap, ◌∙◌, subst, arith}
use Rattle.std.specs.Prelude.{◌==◌, if◌then◌else◌, min, nat_le, option_map, slice_index}
use Rattle.std.proofs.lemmas.Bool.{and_parts}
use Rattle.std.proofs.lemmas.Bool.Decides.{nat_tests}
use Rattle.std.proofs.lemmas.Grind.{common_steps}
use Rattle.byteorder.specs.Endian.{little_number}
use Rattle.rv_isa.specs.declared.instruction.Inst.{Inst}
use Rattle.rv_isa_laws.specs.Bytes.{little_endian}
use Rattle.rv_isa_laws.specs.Memory.{Mem, Read, Write, may, with_byte, with_bytes, with_number}
use Rattle.rv_isa_laws.specs.Hart.{Hart, register}
use Rattle.rv_isa_laws.specs.Effect.{Effect, Goes, Loads, Stores, Reserves, Conditional, Updates, Calls, Breaks, Next, On, Over, apply, environment_call}
use Rattle.rv_isa_laws.specs.Meaning.{effect}
use Rattle.rv_isa_laws.specs.Reader.{Reader}
use Rattle.rv_isa_laws.specs.Run.{Fetched, Got, NoRight, NoInstruction, fetch, done, step}
use Rattle.rv_isa_laws.specs.Word.{Spells}
use Rattle.rv_parcel.specs.Parcel.{StandsFor}
use Rattle.rv_isa_laws.proofs.BytesLemmas.{little_long}
use Rattle.rv_isa_laws.proofs.ReaderLemmas.{word_read, word_read-exact}
use Rattle.rv_parcel.proofs.ReaderLemmas.{reader, reader-exact}
use Rattle.rv_image_laws.specs.Image.{Image}
use Rattle.rv_image_laws.specs.Memory.{mem_of}
use Rattle.rv_machine.specs.LastState.{last_state, left_by}
use Rattle.rv_memory.proofs.MemoryLemmas.{may-front, with_number-bytes}
use Rattle.rv_states.specs.Keeps.{Keeps}
use Rattle.rv_states.specs.Snapshot.{words, with_pieces, hart_by, state_by, state_in}

pub keeps_all : (m : Mem) → Keeps m m
keeps_all m = record { rights = λ x right. refl; bytes = λ x none. refl }

pub keeps_on : (l m n : Mem) → Keeps l m → Keeps m n → Keeps l n
keeps_on l m n k j = record {
  rights = λ x right. j.rights x right ∙ k.rights x right;
  bytes = λ x none. j.bytes x (k.rights x Write ∙ none) ∙ k.bytes x none;
}

-- bytes that may be written
byte_at_other : (b : Bool) (m : Mem) (x y : ℕ) (v : ℕ) → (x == y) ≡ b → m.has y Write ≡ true → m.has x Write ≡ false → (if b then v else m.byte x) ≡ m.byte x
byte_at_other true m x y v is can none =
    let same : x ≡ y = grind (arith, nat_tests) in
    absurd (let e : m.has x Write ≡ true = subst (λ (z : ℕ). m.has z Write ≡ true) (sym same) can in cc)
byte_at_other false m x y v is can none = refl

keeps_byte : (m : Mem) (a b : ℕ) → m.has a Write ≡ true → Keeps m (with_byte m a b)
keeps_byte m a b can = record { rights = λ x right. refl; bytes = λ x none. byte_at_other (x == a) m x a b refl can none }

may_as : (m : Mem) (a b v n : ℕ) → may m a n Write ≡ true → may (with_byte m b v) a n Write ≡ true
may_as m a b v zero h = refl
may_as m a b v (suc n) h =
    let both = and_parts (m.has (a % 2 ^ 64) Write) (may m (a + 1) n Write) h in
    rw both.0 (may_as m (a + 1) b v n both.1)

pub keeps_bytes : (m : Mem) (a : ℕ) (bs : List ℕ) → may m a (length bs) Write ≡ true → Keeps m (with_bytes m a bs)
keeps_bytes m a [] h = keeps_all m
keeps_bytes m a (b ∷ bs) h =
    let both = and_parts (m.has (a % 2 ^ 64) Write) (may m (a + 1) (length bs) Write) h in
    let n = with_byte m (a % 2 ^ 64) b in
    keeps_on m n (with_bytes n (a + 1) bs) (keeps_byte m (a % 2 ^ 64) b both.0)
    (keeps_bytes n (a + 1) bs (may_as m (a + 1) (a % 2 ^ 64) b (length bs) both.1))

keeps_number : (m : Mem) (a n v : ℕ) → may m a n Write ≡ true → Keeps m (with_number m a n v)
keeps_number m a n v h =
    let long : may m a (length (little_endian n v)) Write ≡ true = rw little_long h in
    subst (λ (p : Mem). Keeps m p) (sym (with_number-bytes m a n v)) (keeps_bytes m a (little_endian n v) long)

-- what follows a step keeps it
abbrev On_keeps : Mem → Next → Type 0
On_keeps m (On h n) = Keeps m n
On_keeps m (Over e) = Unit {0}

keeps_if : (m : Mem) (t : Bool) (x y : Next) → (t ≡ true → On_keeps m x) → On_keeps m y → On_keeps m (if t then x else y)
keeps_if m true x y f g = f refl
keeps_if m false x y f g = g

keeps_stored : (m : Mem) (a n v : ℕ) (t : Bool) → may m a n Write ≡ true → Keeps m (if t then with_number m a n v else m)
keeps_stored m a n v true h = keeps_number m a n v h
keeps_stored m a n v false h = keeps_all m

calls_keep : (h : Hart) (m : Mem) → On_keeps m (environment_call h m)
calls_keep h m =
    keeps_if m (register h 17 == 63) _ _
    (λ _. keeps_if m (register h 10 == 0) _ _
    (λ _. keeps_if m (may m (register h 11) (register h 12) Write) _ _
    (λ can. keeps_bytes m (register h 11) (take (min (register h 12) (length h.input)) h.input)
    (may-front m (register h 11) (register h 12) (length (take (min (register h 12) (length h.input)) h.input)) Write (grind (arith, common_steps)) can))
    (keeps_all m))
    (keeps_all m))
    (keeps_if m (register h 17 == 64) _ _
    (λ _. keeps_if m ((register h 10 == 1) || (register h 10 == 2)) _ _
    (λ _. keeps_if m (may m (register h 11) (register h 12) Read) _ _ (λ _. keeps_all m) (keeps_all m))
    (keeps_all m))
    (keeps_if m (register h 17 == 93) _ _ (λ _. tt) (keeps_all m)))

apply_keeps : (e : Effect) (m : Mem) → On_keeps m (apply e m)
apply_keeps (Goes next) m = keeps_all m
apply_keeps (Loads a n next) m = keeps_if m (may m a n Read) _ _ (λ _. keeps_all m) tt
apply_keeps (Stores a n v next) m = keeps_if m (may m a n Write) _ _ (λ can. keeps_number m a n v can) tt
apply_keeps (Reserves a n next) m = keeps_if m (a % n == 0) _ _ (λ _. keeps_if m (may m a n Read) _ _ (λ _. keeps_all m) tt) tt
apply_keeps (Conditional a n v reserved next) m =
    keeps_if m (a % n == 0) _ _ (λ _. keeps_if m (may m a n Write) _ _ (λ can. keeps_stored m a n v reserved can) tt) tt
apply_keeps (Updates a n new next) m =
    keeps_if m (a % n == 0) _ _
    (λ _. keeps_if m (may m a n Read && may m a n Write) _ _
    (λ can. keeps_number m a n _ (and_parts (may m a n Read) (may m a n Write) can).1) tt) tt
apply_keeps (Calls next) m = calls_keep next m
apply_keeps Breaks m = tt

done_keeps : (f : Fetched) (h : Hart) (m : Mem) → On_keeps m (done f h m)
done_keeps NoRight h m = tt
done_keeps NoInstruction h m = tt
done_keeps (Got i bytes) h m = apply_keeps (effect i bytes h) m

after_keeps : (x : Next) (h : Hart) (m : Mem) (rest : Hart → Mem → Hart × Mem) → On_keeps m x → ((g : Hart) (n : Mem) → Keeps n (rest g n).1) → Keeps m (left_by x h m rest).1
after_keeps (On g n) h m rest k all = keeps_on m n (rest g n).1 k (all g n)
after_keeps (Over e) h m rest k all = keeps_all m

module _ {Spells StandsFor : ℕ → Inst → Type 0} (reader : Reader Spells StandsFor) where
  last_keeps : (n : ℕ) (h : Hart) (m : Mem) → Keeps m (last_state reader n h m).1
  last_keeps zero h m = keeps_all m
  last_keeps (suc n) h m = after_keeps (step reader h m) h m (last_state reader n) (done_keeps (fetch reader m h.pc) h m) (last_keeps n)

-- so does each run
pub run_keeps : (h h' : Hart) (m m' : Mem) → ((reader : Reader Spells StandsFor) → (n : ℕ) × (last_state reader n h m ≡ (h', m'))) → Keeps m m'
run_keeps h h' m m' run =
    let r : Reader Spells StandsFor = record { word = word_read; parcel = reader; words = word_read-exact; parcels = reader-exact } in
    let last = run r in
    subst (λ (n : Mem). Keeps m n) (ap (λ (s : Hart × Mem). s.1) last.1) (last_keeps r last.0 h m)

-- and so do pieces
piece_keeps : (t : Bool) (m n p : Mem) (o : Option Mem) → (t ≡ true → Keeps m n) → (o ≡ Some p → Keeps n p) → (if t then o else None) ≡ Some p → Keeps m p
piece_keeps true m n p o put rest e = keeps_on m n p (put refl) (rest e)
piece_keeps false m n p o put rest e = absurd (cc)

pieces_keep : (n : ℕ) (bytes : List ℕ) (m p : Mem) → with_pieces n bytes m ≡ Some p → Keeps m p
unfolding with_pieces
pieces_keep zero [] m p e = let same : m ≡ p = cc in subst (λ (q : Mem). Keeps m q) same (keeps_all m)
pieces_keep zero (b ∷ bytes) m p e = absurd (cc)
pieces_keep (suc n) bytes m p e =
    let address = little_number 8 bytes in
    let count = little_number 8 (drop 8 bytes) in
    let behind = drop 16 bytes in
    piece_keeps (nat_le 16 (length bytes) && nat_le count (length behind) && may m address count Write)
    m (with_bytes m address (take count behind)) p (with_pieces n (drop count behind) (with_bytes m address (take count behind)))
    (λ t.
    let can = (and_parts (nat_le 16 (length bytes) && nat_le count (length behind)) (may m address count Write) t).1 in
    keeps_bytes m address (take count behind)
    (may-front m address count (length (take count behind)) Write (omega (arith, length-take count behind)) can))
    (pieces_keep n (drop count behind) (with_bytes m address (take count behind)) p) e

abbrev memory_in : Mem → Option (Hart × Mem) → Mem
memory_in d None = d
memory_in d (Some s) = s.1

state_by_keeps : (t : Bool) (hart : Hart) (h : Hart) (m n : Mem) (o : Option Mem) → ((p : Mem) → o ≡ Some p → Keeps m p) →
    (if t then option_map {U = Hart × Mem} (λ (memory : Mem). (hart, memory)) o else None) ≡ Some (h, n) → Keeps m n
state_by_keeps true hart h m n (Some p) all e = subst (λ (q : Mem). Keeps m q) (ap (memory_in n) e) (all p refl)
state_by_keeps true hart h m n None all e = absurd (cc)
state_by_keeps false hart h m n o all e = absurd (cc)

long_keeps : (t : Bool) (image : Image) (numbers pieces input : List ℕ) (h : Hart) (m : Mem) →
    (if t then state_by image numbers pieces input else None) ≡ Some (h, m) → Keeps (mem_of image) m
long_keeps true image numbers pieces input h m e =
    state_by_keeps (nat_le (slice_index numbers 35) (length input)) (hart_by numbers input) h (mem_of image) m
    (with_pieces (slice_index numbers 36) pieces (mem_of image)) (λ p. pieces_keep (slice_index numbers 36) pieces (mem_of image) p) e
long_keeps false image numbers pieces input h m e = absurd (cc)

pub state_keeps : (image : Image) (input snapshot : List ℕ) (h : Hart) (m : Mem) → state_in image input snapshot ≡ Some (h, m) → Keeps (mem_of image) m
state_keeps image input [] h m e = subst (λ (q : Mem). Keeps (mem_of image) q) (ap (memory_in m) e) (keeps_all (mem_of image))
state_keeps image input (b ∷ bytes) h m e =
    long_keeps (nat_le 296 (length (b ∷ bytes))) image (words 37 (b ∷ bytes)) (drop 296 (b ∷ bytes)) input h m e
