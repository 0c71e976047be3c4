-- Writes that take nothing leave what the writer holds; the one that takes bytes adds them.
use Rattle.std.proofs.Common.{◌≡◌, ℕ, [], take, subst, arith}
use Rattle.std.specs.Io.KnownBytes.{Appends}
use Rattle.cfg_io.proofs.Known.{kept, kept_again, appended, none_appended}
use Rattle.cfg_io.proofs.out_sink.write_front.Goals as goal

pub loop-init : goal.loop-init
loop-init g c = kept (g.W.Write.contents c.args.writer.now)

pub returns-in-Ok-clause-wrote : goal.returns-in-Ok-clause-wrote
returns-in-Ok-clause-wrote g c = appended _ _ _ _ c.loop.invariant c.in-Ok.ensures.bytes

pub returns-in-Ok-2-clause-wrote : goal.returns-in-Ok-2-clause-wrote
returns-in-Ok-2-clause-wrote g c =
    none_appended _ _ (appended _ _ _ [] c.loop.invariant (nothing c.in-Ok.count (omega (arith, c.if-count-gt0.false)) c.in-Ok.ensures.bytes))
  where
    nothing : (n : ℕ) → n ≡ 0 → Appends (g.W.Write.contents c.loop.writer) (g.W.Write.contents c.write.new.self) (take n c.args.piece.now) → Appends (g.W.Write.contents c.loop.writer) (g.W.Write.contents c.write.new.self) []
    nothing n none is = subst (λ k. Appends (g.W.Write.contents c.loop.writer) (g.W.Write.contents c.write.new.self) (take k c.args.piece.now)) none is

pub returns-in-Ok-2-2-clause-wrote : goal.returns-in-Ok-2-2-clause-wrote
returns-in-Ok-2-2-clause-wrote g c = kept_again _ _ _ c.loop.invariant c.in-Err.ensures.bytes

pub loop-preserved : goal.loop-preserved
loop-preserved g c = kept_again _ _ _ c.loop.invariant c.in-Err.ensures.bytes

pub returns-clause-wrote : goal.returns-clause-wrote
returns-clause-wrote g c = c.loop.invariant
