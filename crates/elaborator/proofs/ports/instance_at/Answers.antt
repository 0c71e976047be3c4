use Rattle.std.proofs.Common.{◌≡◌, ◌∙◌, ℕ, Option, Some, None, bytes_eq, refl, sym, ap, subst}
use Rattle.std.specs.List.{find}
use Rattle.std.specs.Option.{MatchOption}
use Rattle.darwin_parser.specs.Tree.{Name}
use Rattle.darwin_walk.specs.Instance.{Segment}
use Rattle.darwin_walk.specs.Walked.{segment_of}
use Rattle.elaborator.specs.Instances.{Instance, made_in}
use Rattle.elaborator.specs.Expansion.{expanded_of}
use Rattle.elaborator.specs.Numbering.{Expanded, NumberedIn}
use Rattle.elaborator.specs.Paths.{within}
use Rattle.elaborator.specs.Ports.{Standing}
use Rattle.elaborator.proofs.PortLemmas.{same_instance}
use Rattle.elaborator.proofs.ports.instance_at.Goals as goal

-- what is found among those of a path, where that is the path of a segment
standing_inner :
    (e : Expanded) (n : ℕ) (i : Instance) (s : Segment) (path : Name) (r : Option ℕ) → path ≡ within i.path s
    → MatchOption r (find (λ (j : Instance). bytes_eq path j.path) (made_in e.tree i) ≡ None) (λ m. (j : Instance) × NumberedIn e n m j × (find (λ (k : Instance). bytes_eq path k.path) (made_in e.tree i) ≡ Some j))
    → Standing e n i (Some s) r
standing_inner e n i s path None is told = subst (λ q. find (λ (j : Instance). bytes_eq q j.path) (made_in e.tree i) ≡ None) is told
standing_inner e n i s path (Some m) is told = (told.0, subst (λ q. find (λ (j : Instance). bytes_eq q j.path) (made_in e.tree i) ≡ Some told.0) is told.2, told.1)

pub returns-in-None : goal.returns-in-None
returns-in-None c = λ i at. rw c.in-None.is (i, refl, (refl, at))

pub returns-in_ok-path-in-Some : goal.returns-in_ok-path-in-Some
returns-in_ok-path-in-Some c = λ i at.
    let e = c.args.expansion.now in
    let x = c.instance.result.now in
    let segment = segment_of c.in-Some.segment in
    let same = same_instance e c.args.number x i c.instance.ensures.made at in
    let path = c.as_slice.ensures.value ∙ c.in_ok-path-in-Some.ensures ∙ ap (λ b. within b segment) (c.as_bytes.ensures ∙ sym (ap (λ (j : Instance). j.path) same)) in
    rw c.in-Some.is (standing_inner (expanded_of e) c.args.number i segment c.as_slice.result.now c.child.result path (c.child.ensures i at))
