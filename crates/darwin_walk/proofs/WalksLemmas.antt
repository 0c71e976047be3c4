-- The walk of one part after another.
use Rattle.std.proofs.Common.{◌≡◌, ◌∙◌, ℕ, ◌+◌, ◌<◌, ◌≤◌, length, List, [], ◌∷◌, ◌++◌, map, sum_by, Result, Ok, Err, Contains, refl, sym, ap, subst, append_assoc, append-nil, ℤ, Bool, cond, IsErrAnd, FitsSigned, arith}
use Rattle.std.proofs.lemmas.List.{map-append}
use Rattle.std.specs.Int.{w32, cast_signed, cast_unsigned}
use Rattle.std.proofs.lemmas.Int.{to_z-of_z}
use Rattle.std.specs.List.{flat_map}
use Rattle.std.proofs.lemmas.Grind.{flat_map-append}
use Rattle.std.proofs.lemmas.List.Sums.{sum_by-append, sum_by-cons}
use Rattle.std.proofs.lemmas.List.Elements.{Contains-append_left, Contains-append_right}
use Rattle.base.specs.Answers.{Refuses}
use Rattle.base.proofs.AnswerLaws.{Answers-exit}
use Rattle.darwin_lexer.specs.declared.token.At.{At}
use Rattle.darwin_parser.specs.Tree.{Name, Expr, Stmt, Stmts, forall, when, Component}
use Rattle.darwin_walk.specs.Value.{Env, value}
use Rattle.darwin_walk.specs.Reached.{Reached, valued, turn, range, holds, turns, with_variable, reached_by, reached_in, weight}
use Rattle.darwin_walk.specs.Instance.{children_of, bindings_of, value_fault, faults_of}
use Rattle.darwin_walk.specs.Walked.{Adds, cause_of, child_of, binding_of}
use Rattle.darwin_walk.specs.Spine.{env_of}
use Rattle.darwin_walk.specs.declared.valuing.Variable as code
use Rattle.darwin_walk.specs.Scope.{Walks, component_at, parameters_at}
use Rattle.darwin_walk.specs.declared.scope.Scope.{Scope}
use Rattle.darwin_walk.specs.declared.walked.Walked.{Walked}
use Rattle.darwin_walk.specs.declared.fault.WalkError.{WalkError}
use Rattle.darwin_walk.specs.declared.fault.WalkError.TheVariants as error
use Rattle.darwin_walk.proofs.CauseLaws.{cause-grow, fault-grow}

-- a list with more, and more again
longer :
    {A B : Type 0} (f : A → List B) (xs ys : List A) (old mid new : List B)
    → mid ≡ old ++ flat_map f xs → new ≡ mid ++ flat_map f ys → new ≡ old ++ flat_map f (xs ++ ys)
longer f xs ys old mid new first second = rw (second, first, flat_map-append f xs ys, append_assoc)

Adds-append :
    (c : Component) (p : Env) (room : ℕ) (xs ys : List Reached) (old mid new : Walked)
    → Adds c p room xs old mid → Adds c p room ys mid new → Adds c p room (xs ++ ys) old new
Adds-append c p room xs ys old mid new first second =
    record {
      sizes = second.sizes ∙ first.sizes;
      children = longer (children_of c p) xs ys _ _ _ first.children second.children;
      bindings = longer bindings_of xs ys _ _ _ first.bindings second.bindings;
      count = omega (arith, first.count, second.count, sum_by-append weight xs ys);
      within = λ h. second.within (first.within h);
    }

-- a part that has no fault, and then another
pub Walks-append :
    (s : Scope) (xs ys : List Reached) (old mid new : Walked) (r : Result (Unit {0}) WalkError)
    → Walks s xs old mid (Ok tt) → Walks s ys mid new r → Walks s (xs ++ ys) old new r
Walks-append s xs ys old mid new (Ok u) first second = (
  rw (flat_map-append (faults_of (component_at s) (parameters_at s)) xs ys, first.0, second.0),
  Adds-append (component_at s) (parameters_at s) s.room xs ys old mid new first.1 second.1,
)
Walks-append s xs ys old mid new (Err e) first second = λ other.
    cause-grow _ _ _ _ (λ f has. rw (flat_map-append (faults_of (component_at s) (parameters_at s)) xs ys) (Contains-append_right _ _ f has))
    (λ (many : s.room < mid.count + sum_by weight ys). omega (arith, first.1.count, many, sum_by-append weight xs ys)) e (second other)

-- a part that stops the walk
pub Walks-stop :
    (s : Scope) (xs ys : List Reached) (old mid new : Walked) (e : WalkError)
    → Walks s xs old mid (Err e) → Walks s (xs ++ ys) old new (Err e)
Walks-stop s xs ys old mid new e stop = λ other.
    cause-grow _ _ _ _ (λ f has. rw (flat_map-append (faults_of (component_at s) (parameters_at s)) xs ys) (Contains-append_left _ _ f has))
    (λ (many : s.room < old.count + sum_by weight xs). omega (arith, many, sum_by-append weight xs ys)) e (stop other)

-- the exit of a `?` hands the error on
pub Walks-exit :
    (s : Scope) (xs : List Reached) (old new : Walked) (e : WalkError) (r : Result (Unit {0}) WalkError)
    → IsErrAnd r (λ y. y ≡ e) → Walks s xs old new (Err e) → Walks s xs old new r
Walks-exit s xs old new e r exit stops = Answers-exit _ _ exit (λ _ cause. cause) stops

-- ---- statements

-- values are asked for, and nothing else is reached
valued_all :
    (s : Scope) (xs : List Reached) (w : Walked)
    → flat_map (faults_of (component_at s) (parameters_at s)) xs ≡ [] → flat_map (children_of (component_at s) (parameters_at s)) xs ≡ []
    → flat_map bindings_of xs ≡ [] → sum_by weight xs ≡ 0 → Walks s xs w w (Ok tt)
valued_all s xs w no_faults no_children no_bindings no_count = (
  no_faults,
  record {
    sizes = refl;
    children = rw (no_children, append-nil);
    bindings = rw (no_bindings, append-nil);
    count = omega (arith, no_count);
    within = λ h. h;
  },
)

pub Walks-forall :
    (s : Scope) (env : Env) (name : Name) (low high : Expr) (body : Stmts) (at : At) (zs : List ℤ) (stmt : Stmt) (old new : Walked)
    (r : Result (Unit {0}) WalkError)
    → stmt ≡ forall name low high body at → value_fault at (value low env) ++ value_fault at (value high env) ≡ []
    → range (value low env) (value high env) ≡ zs → Walks s (turns body env name zs) old new r → Walks s (reached_by stmt env) old new r
Walks-forall s env name low high body at zs stmt old new r is no_faults ranges walks =
    rw (is, ranges)
    (Walks-append s (valued low env at ∷ valued high env at ∷ []) (turns body env name zs) old old new r
    (valued_all s _ old (ap (λ x. value_fault at (value low env) ++ x) (append-nil _) ∙ no_faults) refl refl refl) walks)

pub Walks-forall-stop :
    (s : Scope) (env : Env) (name : Name) (low high : Expr) (body : Stmts) (at : At) (stmt : Stmt) (old new : Walked) (e : WalkError)
    → stmt ≡ forall name low high body at → Refuses error.NoMemory (cause_of (value_fault at (value low env) ++ value_fault at (value high env)) ⊥) e
    → Walks s (reached_by stmt env) old new (Err e)
Walks-forall-stop s env name low high body at stmt old new e is stops =
    rw is
    (Walks-stop s (valued low env at ∷ valued high env at ∷ []) (turns body env name (range (value low env) (value high env))) old old new e
    (λ other.
    fault-grow _ _ _ (λ f has. subst (λ fs. Contains fs f) (sym (ap (λ fs. value_fault at (value low env) ++ fs) (append-nil _))) has) e (stops other)))

pub Walks-when :
    (s : Scope) (env : Env) (test : Expr) (body : Stmts) (at : At) (b : Bool) (stmt : Stmt) (old new : Walked)
    (r : Result (Unit {0}) WalkError)
    → stmt ≡ when test body at → value_fault at (value test env) ≡ [] → holds (value test env) ≡ b
    → Walks s (cond b (reached_in body env) []) old new r → Walks s (reached_by stmt env) old new r
Walks-when s env test body at b stmt old new r is no_faults holding walks =
    rw (is, holding)
    (Walks-append s (valued test env at ∷ []) (cond b (reached_in body env) []) old old new r
    (valued_all s _ old (append-nil _ ∙ no_faults) refl refl refl) walks)

pub Walks-none : (s : Scope) (w : Walked) → Walks s [] w w (Ok tt)
Walks-none s w = valued_all s [] w refl refl refl refl

-- ---- turns

counted : (s : Scope) (w next : Walked) → w.count < s.room → next ≡ record w { count = w.count + 1 } → Walks s (turn ∷ []) w next (Ok tt)
counted s w next room is = (
  refl,
  record {
    sizes = ap (λ x. x.port_sizes.items) is;
    children = ap (λ x. map child_of x.children.items) is ∙ sym (append-nil _);
    bindings = ap (λ x. map binding_of x.bindings.items) is ∙ sym (append-nil _);
    count = ap (λ x. x.count) is;
    within = λ h. omega (arith, ap (λ x. x.count) is);
  },
)

-- a turn, and the turns after it
pub Walks-turn :
    (s : Scope) (body : Stmts) (env : Env) (name : Name) (z : ℤ) (zs : List ℤ) (old next mid new : Walked) (r : Result (Unit {0}) WalkError)
    → old.count < s.room → next ≡ record old { count = old.count + 1 } → Walks s (reached_in body (with_variable env name z)) next mid (Ok tt)
    → Walks s (turns body env name zs) mid new r → Walks s (turns body env name (z ∷ zs)) old new r
Walks-turn s body env name z zs old next mid new r room is now after =
    Walks-append s (turn ∷ reached_in body (with_variable env name z)) (turns body env name zs) old mid new r
    (Walks-append s (turn ∷ []) (reached_in body (with_variable env name z)) old next mid (Ok tt) (counted s old next room is) now) after

pub Walks-turn-stop :
    (s : Scope) (body : Stmts) (env : Env) (name : Name) (z : ℤ) (zs : List ℤ) (old next mid new : Walked) (e : WalkError)
    → old.count < s.room → next ≡ record old { count = old.count + 1 } → Walks s (reached_in body (with_variable env name z)) next mid (Err e)
    → Walks s (turns body env name (z ∷ zs)) old new (Err e)
Walks-turn-stop s body env name z zs old next mid new e room is stops =
    Walks-stop s (turn ∷ reached_in body (with_variable env name z)) (turns body env name zs) old mid new e
    (Walks-append s (turn ∷ []) (reached_in body (with_variable env name z)) old next mid (Err e) (counted s old next room is) stops)

-- no room is left for the turn
pub Walks-turn-many :
    (s : Scope) (body : Stmts) (env : Env) (name : Name) (z : ℤ) (zs : List ℤ) (old new : Walked) (e : WalkError)
    → Refuses error.NoMemory (cause_of [] (s.room < old.count + 1)) e → Walks s (turns body env name (z ∷ zs)) old new (Err e)
Walks-turn-many s body env name z zs old new e stops =
    Walks-stop s (turn ∷ []) (reached_in body (with_variable env name z) ++ turns body env name zs) old new new e stops

-- each turn counts
turns-weight : (body : Stmts) (env : Env) (name : Name) (zs : List ℤ) → length zs ≤ sum_by weight (turns body env name zs)
turns-weight body env name [] = omega arith
turns-weight body env name (z ∷ zs) =
    omega (
      arith,
      sum_by-append weight (turn ∷ reached_in body (with_variable env name z)) (turns body env name zs),
      sum_by-cons weight turn (reached_in body (with_variable env name z)),
      turns-weight body env name zs,
    )

-- no room is left for as many turns
pub Walks-turns-many :
    (s : Scope) (body : Stmts) (env : Env) (name : Name) (zs : List ℤ) (old new : Walked) (e : WalkError)
    → Refuses error.NoMemory (cause_of [] (s.room < old.count + length zs)) e → Walks s (turns body env name zs) old new (Err e)
Walks-turns-many s body env name zs old new e stops = λ other.
    cause-grow [] _ _ _ (Contains-append_left [] (flat_map (faults_of (component_at s) (parameters_at s)) (turns body env name zs)))
    (λ (many : s.room < old.count + length zs). omega (arith, many, turns-weight body env name zs)) e (stops other)

-- the variables in a turn
env_of-push :
    (env inner pushed : List code.Variable) (v : code.Variable) (z : ℤ)
    → inner ≡ env → pushed ≡ inner ++ v ∷ [] → v.value ≡ cast_signed w32 (cast_unsigned w32 z) → FitsSigned w32 z
    → env_of pushed ≡ with_variable (env_of env) v.name.now z
env_of-push env inner pushed v z same is value fits =
    rw (is, same, map-append, value, to_z-of_z w32 z fits)

-- the same, where there are parameters round them
pub env_at-push :
    (parameters : Env) (env inner pushed seen : List code.Variable) (v : code.Variable) (z : ℤ)
    → inner ≡ env → pushed ≡ inner ++ v ∷ [] → seen ≡ pushed → v.value ≡ cast_signed w32 (cast_unsigned w32 z) → FitsSigned w32 z
    → parameters ++ env_of seen ≡ with_variable (parameters ++ env_of env) v.name.now z
env_at-push parameters env inner pushed seen v z same is sees value fits =
    ap (λ xs. parameters ++ xs) (env_of-push env inner seen v z same (sees ∙ is) value fits) ∙ sym (append_assoc parameters (env_of env) _)
