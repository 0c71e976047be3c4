use Rattle.std.proofs.Common.{◌≡◌, ◌∙◌, Some, refl, sym, ap, subst, arith}
use Rattle.std.proofs.lemmas.List.{length-map}
use Rattle.elaborator.specs.PathNumbers.{path_hash, last_of, LeadsTo}
use Rattle.elaborator.specs.Expansion.{paths_of}
use Rattle.elaborator.specs.declared.instance.Instance as code
use Rattle.elaborator.proofs.HashLemmas.{start-entered}
use Rattle.elaborator.proofs.MappedLemmas.{mapped-add, clash-add}
use Rattle.elaborator.proofs.instance.Expansion.add.Goals as goal
use Rattle.base.proofs.OptionLaws.{None-from_is_some, Some-from_is_some}

pub enter-requires : goal.enter-requires
enter-requires c =
    omega (arith, c.requires.few, c.requires.mapped.hashed.counted, length-map c.args.self.now.instances.items (λ (i : code.Instance). i.path))

pub find_from-same-requires : goal.find_from-same-requires
find_from-same-requires c =
    let e = c.args.self.now in
    rw c.as_slice.ensures.value
    (start-entered (paths_of e) e.numbers c.enter.new.self c.as_bytes-path.result.now c.in_ok-before.before c.requires.mapped.hashed c.in_ok-before.ensures.entered c.in_ok-before.ensures.before)

pub returns-then-is_some : goal.returns-then-is_some
returns-then-is_some c = λ other.
    let same = Some-from_is_some c.find_from-same.result (sym c.is_some.ensures ∙ c.if-is_some.true) in
    let found = rw (c.as_slice.ensures.value, same.1) at c.find_from-same.ensures in
    (refl, clash-add c.args.self.now c.args.instance same.0 found.0 (found.1 ∙ ap Some c.as_bytes-path.ensures))

pub returns : goal.returns
returns c =
    let e = c.args.self.now in
    let x = c.args.instance in
    let none = rw (c.as_slice.ensures.value, None-from_is_some c.find_from-same.result (sym c.is_some.ensures ∙ c.if-is_some.false)) at c.find_from-same.ensures in
    let before : c.in_ok-before.before ≡ last_of e.numbers (path_hash x.path) =
    c.in_ok-before.ensures.before ∙ ap (λ p. last_of e.numbers (path_hash p)) c.as_bytes-path.ensures in
    record {
      instances = c.in_ok-push.ensures.items;
      same_unit = refl;
      mapped =
          mapped-add e (record { directory = e.directory; instances = c.push.new.self; numbers = c.enter.new.self }) x c.requires.mapped c.in_ok-push.ensures.items
          (rw c.as_bytes-path.ensures at c.in_ok-before.ensures.entered)
          (λ n to at. none n (subst (LeadsTo c.enter.new.self.before.items n) (sym before) to) (at ∙ ap Some (sym c.as_bytes-path.ensures)));
    }
