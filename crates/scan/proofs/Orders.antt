-- Orders are sound, and their counts are in balance, along any accepted calls.
use Rattle.std.proofs.Common.{◌≡◌, ℕ, zero, suc, ◌+◌, ◌≤◌, false, ◌&&◌, ltb, List, [], ◌∷◌, map, length, get_or, Some, None, Option, sym, refl, ap, ◌∙◌, subst, append-nil, arith}
use Rattle.std.proofs.lemmas.Bool.Decides.{nat_tests}
use Rattle.std.specs.List.{slice_get}
use Rattle.occurrence.specs.Occurrence.{IsEnd}
use Rattle.occurrence.proofs.SearchLaws.{search_finds_the_end}
use Rattle.landmark.specs.Grammar.{Landmark, landmarks_of, pattern_of}
use Rattle.landmark.specs.declared.element.Role.{Role}
use Rattle.landmark.specs.declared.element.Role.TheVariants.{Entry, Bar}
use Rattle.plan.specs.Seats.{role_of}
use Rattle.scan.specs.History.{History, opened, took, issued, carried-out, struck_off, Opening, Status, idle, open_on, longer, status, out, outs, issuings, carryings, strikings}
use Rattle.scan.specs.Rules.{line, facts, facts_on, end_in, end_at, is_bar, has_end, barred_line, role_line, image_line, offer_refusal}
use Rattle.scan.specs.Promise.{SoundEntry, Enters, Sound}
use Rattle.scan.proofs.Lines.{some_none, neither, not_applied, fits}
use Rattle.scan.specs.declared.order.Numbers.{Numbers}

-- what a list of answers has at k is the answer at k
pub nth_map : {X Y : Type 0} (f : X → Y) (xs : List X) (k : ℕ) (y : Y) → slice_get (map f xs) k ≡ Some y → (x : X) × (slice_get xs k ≡ Some x) × (f x ≡ y)
nth_map f [] k y e = some_none (sym e)
nth_map f (x ∷ xs) zero y e = (x, refl, cc)
nth_map f (x ∷ xs) (suc k) y e = nth_map f xs k y e

pub get_d_map : {X Y : Type 0} (f : X → Y) (d : Y) (xs : List X) (k : ℕ) (x : X) → slice_get xs k ≡ Some x → get_or (map f xs) k d ≡ f x
get_d_map f d [] k x e = some_none (sym e)
get_d_map f d (y ∷ xs) zero x e = let same : y ≡ x = cc in ap f same
get_d_map f d (y ∷ xs) (suc k) x e = get_d_map f d xs k x e

-- a landmark of an accepted order is an entry
entry_role : (r : Option Role) (k : ℕ) → role_line r k ≡ None → r ≡ Some Entry
entry_role None k e = some_none e
entry_role (Some Entry) k e = refl
entry_role (Some Bar) k e = some_none e

no_end : (e : Option ℕ) → has_end e ≡ false → e ≡ None
no_end None h = refl
no_end (Some e) h = cc

bar_without_end : (r : Role) (e : Option ℕ) → r ≡ Bar → (is_bar r && has_end e) ≡ false → e ≡ None
bar_without_end Entry e is h = cc
bar_without_end Bar e is h = no_end e h

unbarred : (image : List ℕ) (j : ℕ) (ms : List Landmark) → barred_line j (map role_of ms) (map (end_in image) ms) ≡ None → (k : ℕ) (m : Landmark) → slice_get ms k ≡ Some m → m.role ≡ Bar → end_in image m ≡ None
unbarred image j [] none k m at bar = some_none (sym at)
unbarred image j (x ∷ xs) none zero m at bar =
    let same : x ≡ m = cc in
    let here = not_applied (is_bar x.role && has_end (end_in image x)) _ _ (neither _ (barred_line (suc j) (map role_of xs) (map (end_in image) xs)) none).0 in
    subst (λ (y : Landmark). end_in image y ≡ None) same (bar_without_end x.role (end_in image x) (ap role_of same ∙ bar) here)
unbarred image j (x ∷ xs) none (suc k) m at bar =
    unbarred image (suc j) xs (neither (line (is_bar x.role && has_end (end_in image x)) _ j) _ none).1 k m at bar

-- an order that no line refuses enters soundly
pub sound_issue : (o : Opening) (image : List ℕ) (k e : ℕ) → length image ≤ o.announced → image_line (facts (open_on o image)) k ≡ None → end_at (facts (open_on o image)) k ≡ Some e → SoundEntry o image k e
sound_issue o image k e within none at =
    let ms = landmarks_of o.list in
    let (by-role, rest) = neither (role_line (slice_get (map role_of ms) k) k) _ none in
    let (by_size, later) = neither (line (ltb (length image) o.announced) _ _) _ rest in
    let (by-bars, _) = neither (barred_line 0 (map role_of ms) (map (end_in image) ms)) _ later in
    let (m, here, role) = nth_map role_of ms k Entry (entry_role (slice_get (map role_of ms) k) k by-role) in
    let size = not_applied (ltb (length image) o.announced) _ _ by_size in
    let is : end_in image m ≡ Some e = sym (get_d_map (end_in image) None ms k m here) ∙ at in
    record {
      whole = grind (arith, nat_tests);
      landmark = (m, here, role, subst (IsEnd (pattern_of m) image) is (search_finds_the_end (pattern_of m) image));
      unbarred = λ j x there bar. subst (IsEnd (pattern_of x) image) (unbarred image 0 ms by-bars j x there bar) (search_finds_the_end (pattern_of x) image);
    }

-- what accepted calls keep of orders: those carried out were sound, one that is out is, and the counts are in balance
pub record Orderly (h : History) : Type 0 where
  pub sound : Sound h
  pub out-sound : (n : Numbers) → out h ≡ Some n → Enters (status h) n.landmark n.entry
  pub balance : issuings h ≡ carryings h + strikings h + outs (out h)

-- no order is out when a scan is opened
pub orderly_opened : (o : Opening) (h : History) → out h ≡ None → Orderly h → Orderly (opened o ∷ h)
orderly_opened o h free i = record { sound = i.sound; out-sound = λ n at. some_none (sym at ∙ free); balance = i.balance }

-- while one is out, the image is whole, and only an empty block is accepted
enters_longer : (st : Status) (place : ℕ) (block : List ℕ) (k e : ℕ) → offer_refusal (facts st) place (length block) ≡ None → Enters st k e → Enters (longer st block) k e
enters_longer idle place block k e none s = absurd s
enters_longer (open_on o image) place [] k e none s = subst (λ (bytes : List ℕ). SoundEntry o bytes k e) (sym (append-nil image)) s
enters_longer (open_on o image) place (b ∷ bs) k e none s = let room = fits (facts_on o image) place (length (b ∷ bs)) none in let whole = s.whole in absurd (omega arith)

pub orderly_took : (place : ℕ) (block : List ℕ) (h : History) → offer_refusal (facts (status h)) place (length block) ≡ None → Orderly h → Orderly (took block ∷ h)
orderly_took place block h none i = record {
  sound = i.sound;
  out-sound = λ n at. enters_longer (status h) place block n.landmark n.entry none (i.out-sound n at);
  balance = i.balance;
}

pub orderly_issued : (n : Numbers) (h : History) → out h ≡ None → Enters (status h) n.landmark n.entry → Orderly h → Orderly (issued n ∷ h)
orderly_issued n h free enters i = record {
  sound = i.sound;
  out-sound = λ m at. let same : n ≡ m = cc in subst (λ (x : Numbers). Enters (status h) x.landmark x.entry) same enters;
  balance = let before = i.balance in let none = ap outs free in omega arith;
}

pub orderly_carried_out : (n : Numbers) (h : History) → out h ≡ Some n → Orderly h → Orderly (carried-out n n.entry ∷ h)
orderly_carried_out n h at i = record {
  sound = (i.out-sound n at, i.sound);
  out-sound = λ m none. some_none (sym none);
  balance = let before = i.balance in let one = ap outs at in omega arith;
}

pub orderly_struck_off : (n : Numbers) (h : History) → out h ≡ Some n → Orderly h → Orderly (struck_off n ∷ h)
orderly_struck_off n h at i = record {
  sound = i.sound;
  out-sound = λ m none. some_none (sym none);
  balance = let before = i.balance in let one = ap outs at in omega arith;
}
