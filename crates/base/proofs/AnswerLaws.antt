-- What an answer owes of a part, it owes of the whole.
use Rattle.std.proofs.Common.{◌≡◌, ◌∙◌, Result, Ok, Err, IsErrAnd, sym, subst}
use Rattle.std.specs.Prelude.{OnErr, IfOk, OnOk}
use Rattle.base.specs.Answers.{Answers, Refuses}

-- an answer with less of its value, and with wider causes
pub Answers-weaker :
    {T E : Type 0} {Strong Weak : T → Type 0} {Cause Wider : E → Type 0} (free : E) (answer : Result T E)
    → ((x : T) → Strong x → Weak x) → ((e : E) → Cause e → Wider e) → Answers free Strong Cause answer → Answers free Weak Wider answer
Answers-weaker free (Ok x) weaken widen owed = weaken x owed
Answers-weaker free (Err e) weaken widen owed = λ other. widen e (owed other)

-- what the exit of a `?` returns: the refusal of a part, whose cause is one of the whole
pub Answers-exit :
    {T E : Type 0} {free refusal : E} {Cause Wider : E → Type 0} (IsRight : T → Type 0) (answer : Result T E)
    → IsErrAnd answer (λ e. e ≡ refusal) → ((e : E) → Cause e → Wider e) → Refuses free Cause refusal → Answers free IsRight Wider answer
Answers-exit IsRight (Ok x) exit widen refuses = absurd exit
Answers-exit {Cause = Cause} IsRight (Err e) exit widen refuses = λ other. widen e (subst Cause (sym exit) (refuses (λ is. other (exit ∙ is))))

-- the refusal that an answer names has its cause
pub Refuses-named :
    {T E : Type 0} {free refusal : E} (IsRight : T → Type 0) (Cause : E → Type 0) {answer : Result T E}
    → answer ≡ Err refusal → Answers free IsRight Cause answer → Refuses free Cause refusal
Refuses-named {free = free} IsRight Cause is owed = subst (Answers free IsRight Cause) is owed

pub if_err : {A E P : Type 0} → P → (r : Result A E) → OnErr r P
if_err h (Ok x) = tt
if_err h (Err e) = h

pub on_err : {A E P Q : Type 0} → (P → Q) → (r : Result A E) → OnErr r P → OnErr r Q
on_err f (Ok x) h = tt
on_err f (Err e) h = f h

pub on_both_errs : {A E P Q R : Type 0} → (P → Q → R) → (r : Result A E) → OnErr r P → OnErr r Q → OnErr r R
on_both_errs f (Ok x) h i = tt
on_both_errs f (Err e) h i = f h i

-- what an answer says of the roots that are left
pub ok_if : {E : Type 0} (P Q : Type 0) → (P → Q) → (r : Result (Unit {0}) E) → OnOk r P → IfOk r (λ _. Q)
ok_if P Q f (Ok x) h = f h
ok_if P Q f (Err e) h = tt

pub where_both : {A E : Type 0} (P R Q : A → Type 0) → ((x : A) → P x → R x → Q x) → (r : Result A E) → IfOk r P → IfOk r R → IfOk r Q
where_both P R Q f (Ok x) h k = f x h k
where_both P R Q f (Err e) h k = h
