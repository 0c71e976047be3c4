-- Known bytes that stay, and then grow.
use Rattle.std.proofs.Common.{◌∙◌, ℕ, List, [], ◌++◌, Option, Some, None, append-nil, refl, ap}
use Rattle.std.specs.Io.KnownBytes.{Keeps, Appends}

pub kept : (known : Option (List ℕ)) → Keeps known known
kept None = tt
kept (Some xs) = refl

pub kept_again : (old then_ new : Option (List ℕ)) → Keeps old then_ → Keeps then_ new → Keeps old new
kept_again None then_ new first second = tt
kept_again (Some xs) None new first second = absurd first
kept_again (Some xs) (Some ys) None first second = absurd second
kept_again (Some xs) (Some ys) (Some zs) first second = second ∙ first

pub appended : (old then_ new : Option (List ℕ)) (bytes : List ℕ) → Keeps old then_ → Appends then_ new bytes → Appends old new bytes
appended None then_ new bytes first second = tt
appended (Some xs) None new bytes first second = absurd first
appended (Some xs) (Some ys) None bytes first second = absurd second
appended (Some xs) (Some ys) (Some zs) bytes first second = second ∙ ap (λ front. front ++ bytes) first

pub none_appended : (old new : Option (List ℕ)) → Appends old new [] → Keeps old new
none_appended None new is = tt
none_appended (Some xs) None is = absurd is
none_appended (Some xs) (Some ys) is = is ∙ append-nil xs
