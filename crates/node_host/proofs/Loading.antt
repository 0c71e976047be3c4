-- What a seat loaded, over several calls.
use Rattle.std.proofs.Common.{◌≡◌, ◌∙◌, ℕ, ◌+◌, ◌≤◌, Bool, true, false, Option, Some, None, sym, ap, arith}
use Rattle.std.specs.Prelude.{◌&&◌}
use Rattle.std.proofs.lemmas.Bool.{and_parts, both_ways}
use Rattle.std.proofs.lemmas.Option.{none-some}
use Rattle.node_gate.specs.Loads.{IsLed, IsLoaded, IsOfNow, Led, Load, Loads, LoadsAt, TellsLoads}
use Rattle.quiesce_core.specs.declared.known.Known.{Known}
use Rattle.node_host.specs.Tried.{Keeps, LoadsPort, StepsGrow, is_busy}

-- what two calls one after the other do
pub then_so : (P Q R : Loads → Loads → Type 0) → ((a b c : Loads) → P a b → Q b c → R a c) → (a b c : Option Loads) → TellsLoads P a b → TellsLoads Q b c → TellsLoads R a c
then_so P Q R f None None c p q = q
then_so P Q R f None (Some b) c p q = absurd (none-some b (sym p))
then_so P Q R f (Some a) None c p q = absurd p
then_so P Q R f (Some a) (Some b) None p q = absurd q
then_so P Q R f (Some a) (Some b) (Some c) p q = f a b c p q

pub as_so : (P Q : Loads → Loads → Type 0) → ((a b : Loads) → P a b → Q a b) → (a b : Option Loads) → TellsLoads P a b → TellsLoads Q a b
as_so P Q f None b p = p
as_so P Q f (Some a) None p = absurd p
as_so P Q f (Some a) (Some b) p = f a b p

-- ---- one load

now_since : (shows : Load → Bool) (a b c : ℕ) (l : Load) → a ≤ b → IsOfNow shows b c l → IsOfNow shows a c l
now_since shows a b c l few h = record { after = omega (arith, few, h.after); until = h.until; shown = h.shown }

now_kept : (shows : Load → Bool) (a b c : ℕ) (l : Load) → b ≤ c → IsOfNow shows a b l → IsOfNow shows a c l
now_kept shows a b c l few h = record { after = h.after; until = omega (arith, few, h.until); shown = h.shown }

pub loaded_since : (p : ℕ) (shows : Load → Bool) (a b c : Loads) → StepsGrow a b → IsLoaded p shows b c → IsLoaded p shows a c
loaded_since p shows a b c few h = record { load = h.load; there = h.there; now = now_since shows a.steps b.steps c.steps h.load few h.now }

pub loaded_kept : (p : ℕ) (shows : Load → Bool) (a b c : Loads) → b.steps ≤ c.steps → c.at p ≡ b.at p → IsLoaded p shows a b → IsLoaded p shows a c
loaded_kept p shows a b c few same h = record { load = h.load; there = same ∙ h.there; now = now_kept shows a.steps b.steps c.steps h.load few h.now }

pub led_since : (p : ℕ) (shows : Load → Bool) (a b c : ℕ) (o : Option Led) → a ≤ b → IsLed p shows b c o → IsLed p shows a c o
led_since p shows a b c o few h = record { led = h.led; there = h.there; port = h.port; now = now_since shows a b c h.led.load few h.now }

pub led_kept : (p : ℕ) (shows : Load → Bool) (a b c : ℕ) (o o' : Option Led) → b ≤ c → o' ≡ o → IsLed p shows a b o → IsLed p shows a c o'
led_kept p shows a b c o o' few same h = record { led = h.led; there = same ∙ h.there; port = h.port; now = now_kept shows a b c h.led.load few h.now }

loaded_as : (p : ℕ) (shows shows' : Load → Bool) → ((l : Load) → shows l ≡ true → shows' l ≡ true) → (a b : Loads) → IsLoaded p shows a b → IsLoaded p shows' a b
loaded_as p shows shows' f a b h = record { load = h.load; there = h.there; now = record { after = h.now.after; until = h.now.until; shown = f h.load h.now.shown } }

pub loads_as : (p : ℕ) (shows shows' : Load → Bool) → ((l : Load) → shows l ≡ true → shows' l ≡ true) → (a b : Option Loads) → TellsLoads (LoadsAt p shows) a b → TellsLoads (IsLoaded p shows') a b
loads_as p shows shows' f a b loads = as_so (LoadsAt p shows) (IsLoaded p shows') (λ x y did. loaded_as p shows shows' f x y did.loaded) a b loads

-- what was loaded shows the first of two things that the answer shows
pub loads_first : (p : ℕ) (shows more_ : Load → Bool) (a b : Option Loads) → TellsLoads (LoadsAt p (λ l. shows l && more_ l)) a b → TellsLoads (IsLoaded p shows) a b
loads_first p shows more_ a b loads = loads_as p (λ l. shows l && more_ l) shows (λ l h. (and_parts (shows l) (more_ l) h).0) a b loads

-- ---- what calls leave

pub port_steps : (p : ℕ) (a b : Option Loads) → TellsLoads (LoadsPort p) a b → TellsLoads StepsGrow a b
port_steps p a b h = as_so (LoadsPort p) StepsGrow (λ x y did. did.steps) a b h

pub keeps_steps : (k first : ℕ) (w : Known) (a b : Option Loads) → TellsLoads (Keeps k first w) a b → TellsLoads StepsGrow a b
keeps_steps k first w a b h = as_so (Keeps k first w) StepsGrow (λ x y did. did.steps) a b h

-- what loads at an idle port keeps the loads of the busy ones
pub keeps_loaded : (k first r : ℕ) (shows : Load → Bool) (w : Known) (a b : Option Loads) → is_busy w r ≡ false → TellsLoads (LoadsAt (first + r) shows) a b → TellsLoads (Keeps k first w) a b
keeps_loaded k first r shows w a b idle h =
    as_so (LoadsAt (first + r) shows) (Keeps k first w)
    (λ x y did. record {
      steps = did.steps;
      busy = λ q b. did.others (first + q) (λ same. absurd (both_ways (is_busy w r) idle (ap (is_busy w) (other q same) ∙ b)));
      hear = λ h. did.hear;
      take = λ h. did.take;
    }) a b h
  where
    other : (q : ℕ) → first + q ≡ first + r → r ≡ q
    other q same = omega (arith, same)
