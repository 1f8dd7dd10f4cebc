-- The numbers of a snapshot's head, read and written.

use Rattle.std.proofs.Common.{◌≡◌, ℕ, zero, suc, ◌+◌, ◌*◌, ◌^◌, ◌≤◌, ◌<◌, List, [], ◌∷◌, ◌++◌, length, length-append, length-drop, drop, append_assoc, refl, sym, ap, ◌∙◌, arith}
use Rattle.std.specs.Prelude.{slice_index}
use Rattle.std.specs.List.{flat_map}
use Rattle.std.proofs.lemmas.List.{drop-drop, drop-append-le, drop_at, ext_get_or}
use Rattle.byteorder.specs.Endian.{little_number, little_bytes, IsRead}
use Rattle.byteorder.specs.Numbers.{little_from-append, little_number-reads_back, length-bytes_low_first}
use Rattle.rv_states.specs.Snapshot.{words}

length_words : (n : ℕ) (bytes : List ℕ) → length (words n bytes) ≡ n
unfolding words
length_words zero bytes = refl
length_words (suc n) bytes = ap suc (length_words n (drop 8 bytes))

word_at : (n k : ℕ) (bytes : List ℕ) → k < n → slice_index (words n bytes) k ≡ little_number 8 (drop (8 * k) bytes)
unfolding words
word_at zero k bytes within = absurd (omega arith)
word_at (suc n) zero bytes within = refl
word_at (suc n) (suc k) bytes within =
    let rest = word_at n k (drop 8 bytes) (omega arith) in
    let place : 8 + 8 * k ≡ 8 * suc k = omega arith in
    rest ∙ ap (little_number 8) (drop-drop (8 * k) 8 bytes ∙ ap (λ (j : ℕ). drop j bytes) place)

read_word : (n k : ℕ) (head rest numbers : List ℕ) → k < n → length numbers ≡ n → length head ≡ 8 * n → IsRead little_number 8 head numbers →
    slice_index numbers k ≡ slice_index (words n (head ++ rest)) k
read_word n k head rest numbers within count long read =
    let enough : 8 * k ≤ length head = omega arith in
    let behind : 8 ≤ length (drop (8 * k) head) = omega (arith, length-drop (8 * k) head) in
    let split : drop (8 * k) (head ++ rest) ≡ drop (8 * k) head ++ rest = drop-append-le (8 * k) head rest enough in
    let same : little_number 8 (drop (8 * k) head ++ rest) ≡ little_number 8 (drop (8 * k) head) = little_from-append 8 (drop (8 * k) head) rest behind in
    read k (omega arith) ∙ sym same ∙ ap (little_number 8) (sym split) ∙ sym (word_at n k (head ++ rest) within)

-- numbers that are read from a head are its words, whatever follows
pub read_words : (n : ℕ) (head rest numbers : List ℕ) → length numbers ≡ n → length head ≡ 8 * n → IsRead little_number 8 head numbers →
    numbers ≡ words n (head ++ rest)
read_words n head rest numbers count long read =
    ext_get_or 0 numbers (words n (head ++ rest)) (count ∙ sym (length_words n (head ++ rest)))
    (λ k within. read_word n k head rest numbers (omega arith) count long read)

-- the words of written numbers are these numbers
pub written_words : (n : ℕ) (numbers rest : List ℕ) → length numbers ≡ n → ((k : ℕ) → slice_index numbers k < 2 ^ 64) →
    words n (flat_map (little_bytes 8) numbers ++ rest) ≡ numbers
unfolding words
written_words zero [] rest count small = refl
written_words zero (x ∷ xs) rest count small = absurd (omega arith)
written_words (suc n) [] rest count small = absurd (omega arith)
written_words (suc n) (x ∷ xs) rest count small =
    let behind = flat_map (little_bytes 8) xs ++ rest in
    let shape : (little_bytes 8 x ++ flat_map (little_bytes 8) xs) ++ rest ≡ little_bytes 8 x ++ behind =
    append_assoc (little_bytes 8 x) (flat_map (little_bytes 8) xs) rest in
    let fits : x < 2 ^ 64 = small 0 in
    let first : little_number 8 (little_bytes 8 x ++ behind) ≡ x = little_number-reads_back 8 x behind (omega arith) in
    let left : drop 8 (little_bytes 8 x ++ behind) ≡ behind = drop_at (little_bytes 8 x) behind 8 (length-bytes_low_first 0 8 x) in
    let later : words n behind ≡ xs = written_words n xs rest (omega arith) (λ k. small (suc k)) in
    ap (words (suc n)) shape
    ∙ ap (λ (y : ℕ). y ∷ words n (drop 8 (little_bytes 8 x ++ behind))) first
    ∙ ap (λ (ys : List ℕ). x ∷ words n ys) left
    ∙ ap (λ (ys : List ℕ). x ∷ ys) later

-- and behind them is what follows
length_written : (numbers : List ℕ) → length (flat_map (little_bytes 8) numbers) ≡ 8 * length numbers
length_written [] = refl
length_written (x ∷ xs) = omega (arith, length-append (little_bytes 8 x) (flat_map (little_bytes 8) xs), length-bytes_low_first 0 8 x, length_written xs)

pub written_rest : (n : ℕ) (numbers rest : List ℕ) → length numbers ≡ n → drop (8 * n) (flat_map (little_bytes 8) numbers ++ rest) ≡ rest
written_rest n numbers rest count = drop_at (flat_map (little_bytes 8) numbers) rest (8 * n) (omega (arith, length_written numbers))
