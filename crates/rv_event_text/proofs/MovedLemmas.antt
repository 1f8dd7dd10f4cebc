-- Bytes in two digits each, one after the other.

use Rattle.std.proofs.Common.{◌≡◌, ℕ, zero, suc, ◌+◌, ◌%◌, ◌^◌, ◌<◌, List, [], ◌∷◌, ◌++◌, sym, ap, ◌∙◌, append_assoc, append-nil, arith}
use Rattle.rv_isa_laws.specs.Memory.{Mem, bytes_at}
use Rattle.rv_memory.proofs.MemoryLemmas.{bytes-more}
use Rattle.rv_event_text_laws.specs.EventLine.{hex_digits, hex_bytes, moved_text}

pub pairs_more : (bytes : List ℕ) (b : ℕ) → hex_bytes (bytes ++ (b ∷ [])) ≡ hex_bytes bytes ++ hex_digits 2 b
pairs_more [] b = append-nil (hex_digits 2 b)
pairs_more (x ∷ bytes) b =
    ap (λ (l : List ℕ). hex_digits 2 x ++ l) (pairs_more bytes b) ∙ sym (append_assoc (hex_digits 2 x) (hex_bytes bytes) (hex_digits 2 b))

-- the digits of one byte of memory more
pub bytes_more : (m : Mem) (a k b : ℕ) (before so_far after : List ℕ) → b ≡ m.byte ((a + k) % 2 ^ 64)
    → so_far ≡ before ++ hex_bytes (bytes_at m a k) → after ≡ so_far ++ hex_digits 2 b → after ≡ before ++ hex_bytes (bytes_at m a (k + 1))
bytes_more m a k b before so_far after is far next =
    next ∙ ap (λ (l : List ℕ). l ++ hex_digits 2 b) far ∙ append_assoc before (hex_bytes (bytes_at m a k)) (hex_digits 2 b)
    ∙ ap (λ (d : ℕ). before ++ (hex_bytes (bytes_at m a k) ++ hex_digits 2 d)) is
    ∙ ap (λ (l : List ℕ). before ++ l) (sym (ap hex_bytes (bytes-more m a k) ∙ pairs_more (bytes_at m a k) (m.byte ((a + k) % 2 ^ 64))))

-- bytes behind their word, where there are some
pub moved_some : (m : Mem) (a n : ℕ) (name before between after : List ℕ) → 0 < n → between ≡ before ++ name
    → after ≡ between ++ hex_bytes (bytes_at m a n) → after ≡ before ++ moved_text name (bytes_at m a n)
moved_some m a zero name before between after some first second = absurd (omega (arith, some))
moved_some m a (suc n) name before between after some first second =
    second ∙ ap (λ (l : List ℕ). l ++ hex_bytes (bytes_at m a (suc n))) first ∙ append_assoc before name (hex_bytes (bytes_at m a (suc n)))
