-- What pieces make of an image's memory, with one more piece, and with more.

use Rattle.std.proofs.Common.{◌≡◌, ℕ, suc, ◌+◌, ◌-◌, ◌%◌, ◌^◌, ◌≤◌, ◌<◌, Bool, true, ◌⊎◌, inl, inr, List, ◌++◌, length, get_or, append_assoc, sym, ap, subst, ◌∙◌, arith}
use Rattle.std.proofs.Math.Path.{fun_ext}
use Rattle.byteorder.specs.Endian.{little_bytes}
use Rattle.rv_isa_laws.specs.Memory.{Mem, Right, Write, may, bytes_at, with_bytes}
use Rattle.rv_memory.proofs.MemoryLemmas.{may-same, has-with_bytes, byte-below, byte-above, byte-inside, byte-of-bytes, length-bytes_at}
use Rattle.rv_memory.proofs.FlatLemmas.{place}
use Rattle.rv_states.specs.Snapshot.{with_pieces}
use Rattle.rv_states.specs.Pieces.{Make, IsNearer, Add}
use Rattle.rv_states.specs.declared.pieces.Pieces.{Pieces}
use Rattle.rv_states.proofs.PieceLemmas.{given_piece}

-- the byte of an address, where another memory's own bytes were put
own_inside : (m w : Mem) (a c x : ℕ) → a + c ≤ 2 ^ 64 → a ≤ x → x < a + c → (with_bytes m a (bytes_at w a c)).byte x ≡ w.byte x
own_inside m w a c x fits low high =
    let long = length-bytes_at w a c in
    let at : (a + (x - a)) % 2 ^ 64 ≡ x = omega arith in
    byte-inside m a (bytes_at w a c) (x - a) x (omega arith) (omega arith) (omega arith) ∙ byte-of-bytes w a c (x - a) (omega arith) ∙ ap w.byte at

own_below : (m w : Mem) (a c x : ℕ) → a + c ≤ 2 ^ 64 → x < a → (with_bytes m a (bytes_at w a c)).byte x ≡ m.byte x
own_below m w a c x fits low = let long = length-bytes_at w a c in byte-below m a (bytes_at w a c) x (omega arith) low

own_above : (m w : Mem) (a c x : ℕ) → a + c ≤ 2 ^ 64 → a + c ≤ x → (with_bytes m a (bytes_at w a c)).byte x ≡ m.byte x
own_above m w a c x fits high = let long = length-bytes_at w a c in byte-above m a (bytes_at w a c) x (omega arith) (omega arith)

either : (p q i w : ℕ) → p ≡ q → (q ≡ i) ⊎ (q ≡ w) → (p ≡ i) ⊎ (p ≡ w)
either p q i w e (inl f) = inl (e ∙ f)
either p q i w e (inr f) = inr (e ∙ f)

own_bytes : (i m w : Mem) (a c x : ℕ) → a + c ≤ 2 ^ 64 → (m.byte x ≡ i.byte x) ⊎ (m.byte x ≡ w.byte x) →
    (x < a) ⊎ (((a ≤ x) × (x < a + c)) ⊎ (a + c ≤ x)) →
    ((with_bytes m a (bytes_at w a c)).byte x ≡ i.byte x) ⊎ ((with_bytes m a (bytes_at w a c)).byte x ≡ w.byte x)
own_bytes i m w a c x fits old (inl below) = either _ _ _ _ (own_below m w a c x fits below) old
own_bytes i m w a c x fits old (inr (inl inside)) = inr (own_inside m w a c x fits inside.0 inside.1)
own_bytes i m w a c x fits old (inr (inr above)) = either _ _ _ _ (own_above m w a c x fits above) old

own_before : (m w : Mem) (a c x : ℕ) → a + c ≤ 2 ^ 64 → m.byte x ≡ w.byte x → (x < a) ⊎ (((a ≤ x) × (x < a + c)) ⊎ (a + c ≤ x)) →
    (with_bytes m a (bytes_at w a c)).byte x ≡ w.byte x
own_before m w a c x fits old (inl below) = own_below m w a c x fits below ∙ old
own_before m w a c x fits old (inr (inl inside)) = own_inside m w a c x fits inside.0 inside.1
own_before m w a c x fits old (inr (inr above)) = own_above m w a c x fits above ∙ old

own_nearer : (m w : Mem) (a c : ℕ) → a + c ≤ 2 ^ 64 → IsNearer w m (with_bytes m a (bytes_at w a c)) a c
own_nearer m w a c fits = record {
  before = λ x old. own_before m w a c x fits old (place x a c);
  now = λ x low high. own_inside m w a c x fits low high;
}

-- with one more piece
one_made : (old new : Pieces) (image machine m : Mem) (a c : ℕ) → a < 2 ^ 64 → c < 2 ^ 64 → a + c ≤ 2 ^ 64 → may machine a c Write ≡ true →
    new.count ≡ old.count + 1 →
    new.bytes.items ≡ (old.bytes.items ++ (little_bytes 8 a ++ little_bytes 8 c)) ++ bytes_at machine a c →
    Make old image machine m → Make new image machine (with_bytes m a (bytes_at machine a c))
one_made old new image machine m a c low small fits can count bytes made =
    let xs = bytes_at machine a c in
    let head = little_bytes 8 a ++ little_bytes 8 c in
    let same : m.has ≡ machine.has = fun_ext (λ (x : ℕ). fun_ext (λ (r : Right). made.rights x r)) in
    let allowed : may m a c Write ≡ true = may-same m machine a c Write same ∙ can in
    record {
      put = λ n rest.
          let next : new.count + n ≡ old.count + suc n = omega arith in
          let shape : new.bytes.items ++ rest ≡ old.bytes.items ++ ((head ++ xs) ++ rest) =
          ap (λ (l : List ℕ). l ++ rest) bytes ∙ ap (λ (l : List ℕ). l ++ rest) (append_assoc old.bytes.items head xs) ∙ append_assoc old.bytes.items (head ++ xs) rest in
          ap (λ (k : ℕ). with_pieces k (new.bytes.items ++ rest) image) next ∙ ap (λ (l : List ℕ). with_pieces (old.count + suc n) l image) shape
          ∙ made.put (suc n) ((head ++ xs) ++ rest) ∙ given_piece n a c xs rest m low small (length-bytes_at machine a c) allowed;
      rights = λ x r. ap (λ (f : ℕ → Right → Bool). f x r) (has-with_bytes m a xs) ∙ made.rights x r;
      bytes = λ x. own_bytes image m machine a c x fits (made.bytes x) (place x a c);
    }

pub one_added : (old new : Pieces) (image machine : Mem) (a c : ℕ) → a < 2 ^ 64 → c < 2 ^ 64 → a + c ≤ 2 ^ 64 → may machine a c Write ≡ true →
    new.count ≡ old.count + 1 →
    new.bytes.items ≡ (old.bytes.items ++ (little_bytes 8 a ++ little_bytes 8 c)) ++ bytes_at machine a c →
    Add old new image machine a c
one_added old new image machine a c low small fits can count bytes = λ m made.
    (with_bytes m a (bytes_at machine a c), one_made old new image machine m a c low small fits can count bytes made, own_nearer m machine a c fits)

-- none
pub none_added : (pieces : Pieces) (image machine : Mem) (a : ℕ) → Add pieces pieces image machine a 0
none_added pieces image machine a = λ m made. (m, made, record { before = λ x old. old; now = λ x low high. absurd (omega arith) })

-- none for what is as in the image
pub image_or_own : (m i w : ℕ) → i ≡ w → (m ≡ i) ⊎ (m ≡ w) → m ≡ w
image_or_own m i w e (inl f) = f ∙ e
image_or_own m i w e (inr f) = f

byte_of : (m : Mem) (a x : ℕ) (bs : List ℕ) → a + length bs ≤ 2 ^ 64 → bytes_at m a (length bs) ≡ bs → a ≤ x → x < a + length bs → m.byte x ≡ get_or bs (x - a) 0
byte_of m a x bs fits is low high =
    let at : (a + (x - a)) % 2 ^ 64 ≡ x = omega arith in
    sym (ap (λ (l : List ℕ). get_or l (x - a) 0) (sym is) ∙ byte-of-bytes m a (length bs) (x - a) (omega arith) ∙ ap m.byte at)

pub same_skipped : (pieces : Pieces) (image machine : Mem) (a : ℕ) (bs : List ℕ) → a + length bs ≤ 2 ^ 64 → bytes_at image a (length bs) ≡ bs →
    bytes_at machine a (length bs) ≡ bs → Add pieces pieces image machine a (length bs)
same_skipped pieces image machine a bs fits as_image as_machine = λ m made. (
  m,
  made,
  record {
    before = λ x old. old;
    now = λ x low high. image_or_own (m.byte x) (image.byte x) (machine.byte x)
        (byte_of image a x bs fits as_image low high ∙ sym (byte_of machine a x bs fits as_machine low high)) (made.bytes x);
  },
)

-- those of two areas, one after the other
in_either : (machine m n p : Mem) (a c d x : ℕ) → IsNearer machine m n a c → IsNearer machine n p (a + c) d → a ≤ x → x < a + (c + d) →
    (x < a + c) ⊎ (((a + c ≤ x) × (x < a + c + d)) ⊎ (a + c + d ≤ x)) → p.byte x ≡ machine.byte x
in_either machine m n p a c d x f g low high (inl first) = g.before x (f.now x low first)
in_either machine m n p a c d x f g low high (inr (inl second)) = g.now x second.0 second.1
in_either machine m n p a c d x f g low high (inr (inr past)) = absurd (omega arith)

pub more_added : (p q r : Pieces) (image machine : Mem) (a b c d e : ℕ) → b ≡ a + c → e ≡ c + d →
    Add p q image machine a c → Add q r image machine b d → Add p r image machine a e
more_added p q r image machine a b c d e at sum f g = λ m made.
    let s = f m made in
    let t = g s.0 s.1 in
    let g' : IsNearer machine s.0 t.0 (a + c) d = subst (λ (y : ℕ). IsNearer machine s.0 t.0 y d) at t.2 in (
      t.0,
      t.1,
      record {
        before = λ x old. t.2.before x (s.2.before x old);
        now = λ x low high. in_either machine m s.0 t.0 a c d x s.2 g' low (omega arith) (place x (a + c) d);
      },
    )
