use Rattle.std.proofs.Common.{◌≡◌, ◌+◌, ◌%◌, ◌^◌, ◌++◌, ℕ, List, [], ◌∷◌, refl, sym, ap, ◌∙◌, arith}
use Rattle.std.specs.List.{flat_map}
use Rattle.std.proofs.lemmas.List.{flat_map_more}
use Rattle.rv_isa_laws.specs.Memory.{Mem, bytes_at}
use Rattle.rv_memory.specs.HeldPages.{held_pages}
use Rattle.rv_memory.proofs.MemoryLemmas.{bytes-more}
use Rattle.rv_gdb_packets.specs.Digits.{byte_digits, digits}
use Rattle.rv_gdb.proofs.memory.put_memory.Goals as goal

-- the digits of one byte more
more : (m : Mem) (a n w b : ℕ) (start before after : List ℕ) → w ≡ (a + n) % 2 ^ 64 → b ≡ m.byte (w % 2 ^ 64) → before ≡ start ++ digits (bytes_at m a n) → after ≡ before ++ byte_digits b →
    after ≡ start ++ digits (bytes_at m a (n + 1))
more m a n w b start before after at is so_far new =
    let once : w % 2 ^ 64 ≡ (a + n) % 2 ^ 64 = omega (arith, at) in
    let there : b ≡ m.byte ((a + n) % 2 ^ 64) = is ∙ ap (λ (k : ℕ). m.byte k) once in
    let last : bytes_at m a n ++ (b ∷ []) ≡ bytes_at m a (n + 1) = ap (λ (k : ℕ). bytes_at m a n ++ (k ∷ [])) there ∙ sym (bytes-more m a n) in
    new ∙ ap (λ (xs : List ℕ). xs ++ byte_digits b) so_far ∙ flat_map_more byte_digits start (bytes_at m a n) b ∙ ap (λ (xs : List ℕ). start ++ flat_map byte_digits xs) last

pub loop-index-preserved : goal.loop-index-preserved
loop-index-preserved c =
    λ none. more (held_pages c.args.memory.now) c.args.range.address c.loop-index.index ((c.args.range.address + c.loop-index.index) % 2 ^ 64) c.in-Some.byte _ _ _ refl (c.in-Some.ensures none) (c.loop-index.invariant none) c.in_ok-put_byte-in-Some.ensures
