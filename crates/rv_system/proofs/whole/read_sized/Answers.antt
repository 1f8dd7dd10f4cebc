use Rattle.std.proofs.Common.{◌≡◌, ◌≤◌, ◌<◌, ◌+◌, length, take, drop, sym, ap, ◌∙◌, subst, arith}
use Rattle.std.specs.Io.KnownBytes.{Consumes}
use Rattle.std.proofs.KnownBytes.{Consumes-nil}
use Rattle.std.proofs.lemmas.List.{length-append}
use Rattle.rv_system.proofs.PiecesLemmas.{front, has_room, read_nothing, read_more}
use Rattle.rv_system.proofs.whole.read_sized.Goals as goal

pub loop-init : goal.loop-init
loop-init g c =
    let rem = g.R.Read.remaining in
    let none = c.in_ok-all.ensures.items in
    let some = c.piece_size.ensures in
    let long = c.in_ok-piece.ensures.len in
    let whole = c.in_ok-piece.piece.ok.0 in
    record {
      within = subst (λ xs. length xs ≤ c.args.limit) (sym none) (omega arith);
      room = omega arith;
      bytes = subst (λ xs. Consumes (rem c.args.reader.now) (rem c.args.reader.now) xs) (sym none) (Consumes-nil (rem c.args.reader.now));
    }

pub returns-then-count-eq0-clause-bytes : goal.returns-then-count-eq0-clause-bytes
returns-then-count-eq0-clause-bytes g c =
    let rem = g.R.Read.remaining in
    read_nothing (rem c.args.reader.now) (rem c.loop.reader) (rem c.read.new.self) c.loop.all.items c.read.new.buf c.in-Ok.count c.loop.invariant.bytes c.in-Ok.ensures.bytes.0 c.if-count-eq0.true

pub loop-preserved : goal.loop-preserved
loop-preserved g c =
    let rem = g.R.Read.remaining in
    let room = c.loop.invariant.room in
    let whole = c.loop.piece.ok.0 in
    let lent = c.as_mut_slice.ensures.len in
    let kept = c.read.auto.buf in
    let bound = c.in-Ok.ensures.bound in
    let old = drop (length c.read.new.buf) c.loop.piece.items in
    let fits : c.in-Ok.count ≤ c.loop.piece.len = omega arith in
    let long : 0 < c.loop.piece.len = omega arith in
    let some : 0 < length c.read.new.buf = omega arith in
    let more : take c.in-Ok.count c.deref.result.now ≡ take c.in-Ok.count c.read.new.buf =
    ap (λ xs. take c.in-Ok.count xs) c.deref.ensures.value ∙ front c.in-Ok.count c.loop.piece.len c.read.new.buf old bound.0 fits in
    let is = c.in_ok-extend_from_slice.ensures.items in
    let total : length c.extend_from_slice.new.self.items ≡ length c.loop.all.items + c.in-Ok.count =
    ap (λ xs. length xs) is
    ∙ length-append c.loop.all.items (take c.in-Ok.count c.deref.result.now)
    ∙ ap (λ xs. length c.loop.all.items + length xs) more
    ∙ ap (λ n. length c.loop.all.items + n) (sym bound.1) in
    let before = c.loop.all.ok.0 in
    let counted = c.len.ensures in
    let low = c.if-count-limit.false in
    let left = c.if-len-limit.false in
    let within = c.loop.invariant.within in
    record {
      within = omega arith;
      room = has_room c.loop.piece.len c.read.new.buf old long some;
      bytes = read_more (rem c.args.reader.now) (rem c.loop.reader) (rem c.read.new.self) c.loop.all.items (take c.in-Ok.count c.deref.result.now) (take c.in-Ok.count c.read.new.buf) c.extend_from_slice.new.self.items c.loop.invariant.bytes c.in-Ok.ensures.bytes.0 more is;
    }
