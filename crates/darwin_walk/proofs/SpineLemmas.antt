-- Chains of operations, as they are gone through.
use Rattle.std.proofs.Common.{◌≡◌, ◌∙◌, ◌+◌, List, [], ◌∷◌, ◌++◌, refl, ap, sym, zero-add, Err, Ok, Result, ℤ, IfOk, FitsSigned, arith}
use Rattle.std.specs.Int.{w32, cast_signed, cast_unsigned}
use Rattle.std.proofs.lemmas.Int.{to_z-of_z}
use Rattle.std.proofs.lemmas.List.Sums.{sum_by-append}
use Rattle.darwin_parser.specs.Tree.{Expr, op, expr_of}
use Rattle.darwin_walk.specs.Value.{Value, integer, Env, operation, value}
use Rattle.darwin_walk.specs.Spine.{climbed, pending_size, expr_size, IsSpineAt, IsClimbing, Says}
use Rattle.darwin_walk.specs.declared.valuing.ValueError.{ValueError}
use Rattle.darwin_walk.specs.declared.valuing.ValueError.TheVariants.{OutOfRange, ZeroDivisor, NoMemory}
use Rattle.darwin_walk.specs.declared.valuing.Pending.{Pending}

-- the operation that comes last stands nearest to the left end
pub climbed-push :
    (env : Env) (xs : List Pending) (p : Pending) (v : Value)
    → climbed env (xs ++ p ∷ []) v ≡ climbed env xs (operation p.op v (value (expr_of p.right.now) env))
climbed-push env [] p v = refl
climbed-push env (x ∷ xs) p v = ap (λ w. operation x.op w (value (expr_of x.right.now) env)) (climbed-push env xs p v)

pub pending_size-push : (xs : List Pending) (p : Pending) → pending_size (xs ++ p ∷ []) ≡ pending_size xs + (expr_size (expr_of p.right.now) + 1)
pending_size-push xs p = rw (sum_by-append (λ q. expr_size (expr_of q.right.now) + 1) xs (p ∷ [])) (ap (λ n. pending_size xs + n) (zero-add _))

-- a fault goes through to the end
pub Says-climbed : (env : Env) (xs : List Pending) (e : ValueError) (v : Value) → Says (Err e) v → Says (Err e) (climbed env xs v)
Says-climbed env xs NoMemory v h = tt
Says-climbed env [] OutOfRange v h = h
Says-climbed env (x ∷ xs) OutOfRange v h = rw (Says-climbed env xs OutOfRange v h)
Says-climbed env [] ZeroDivisor v h = h
Says-climbed env (x ∷ xs) ZeroDivisor v h = rw (Says-climbed env xs ZeroDivisor v h)

-- one step down to the left
pub IsSpineAt-push :
    (e first left : Expr) (xs ys : List Pending) (p : Pending)
    → IsSpineAt e first xs → first ≡ op p.op left (expr_of p.right.now) → ys ≡ xs ++ p ∷ [] → IsSpineAt e left ys
IsSpineAt-push e first left xs ys p spine is grown =
    record {
      is_value =
          λ env. spine.is_value env ∙ ap (λ x. climbed env xs (value x env)) is ∙ sym (climbed-push env xs p (value left env))
          ∙ ap (λ zs. climbed env zs (value left env)) (sym grown);
      is_size = omega (arith, spine.is_size, ap expr_size is, ap pending_size grown, pending_size-push xs p);
    }

-- one step back up, from a side that has a value
pub IsClimbing-pop :
    (e : Expr) (env : Env) (xs ys : List Pending) (p : Pending) (z : ℤ) (total next : Result ℤ ValueError)
    → IsClimbing e env xs total → xs ≡ ys ++ p ∷ [] → total ≡ Ok z
    → Says next (operation p.op (integer (cast_signed w32 (cast_unsigned w32 z))) (value (expr_of p.right.now) env))
    → IfOk next (λ y. FitsSigned w32 y) → IsClimbing e env ys next
IsClimbing-pop e env xs ys p z total next climbing popped is says fits =
    let here : IsClimbing e env xs (Ok z) = rw is at climbing in
    let same : cast_signed w32 (cast_unsigned w32 z) ≡ z = to_z-of_z w32 z here.fits in
    record {
      at_hand = operation p.op (integer z) (value (expr_of p.right.now) env);
      says = rw same at says;
      fits = fits;
      is_value =
          here.is_value ∙ ap (climbed env xs) here.says ∙ ap (λ zs. climbed env zs (integer z)) popped ∙ climbed-push env ys p (integer z);
      is_size = omega (arith, here.is_size, ap pending_size popped, pending_size-push ys p);
    }

-- a side without a value is the answer
pub IsClimbing-err :
    (e : Expr) (env : Env) (xs : List Pending) (y : ValueError) (total : Result ℤ ValueError)
    → IsClimbing e env xs total → total ≡ Err y → Says (Err y) (value e env)
IsClimbing-err e env xs y total climbing is =
    let here : IsClimbing e env xs (Err y) = rw is at climbing in
    rw here.is_value (Says-climbed env xs y here.at_hand here.says)
