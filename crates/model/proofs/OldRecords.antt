-- Request N7: an operation that could be read with a smaller limit of numbers is read as the same with a larger.
use Prim.Native.Nat.{ℕ, zero, suc, ◌+◌, ◌≤◌}
use mathlib.Core.Path.{◌≡◌, refl, sym, ap, ◌∙◌}
use mathlib.Core.List.{List}
use mathlib.Core.Bool.{Bool, true, false, cond, ◌&&◌, true≢false}
use native.Mathlib.Omega.{arith}
use lib.ListN.{length}
use lib.Dec.{leb, eqb}
use borrow.Author.Tests.{eqb-true, eq-eqb}
use Rattle.model.specs.Number.{most_number, most_before, number_to}
use Rattle.model.specs.Operation.{
  most_code,
  most_items,
  family_of,
  actor_of,
  with_head,
  refused,
  taken,
  number_by,
  counting,
  count_at_by,
  only,
  onward,
  and_then,
  turns,
  payload_by,
  item_by,
  pair_by,
  object_by,
  writing_by,
  copying_by,
  partitioning_by,
  activating_by,
  listing_by,
  deactivating_by,
  arguments_by,
  after_code_by,
  Parsed,
  ended,
  read_operation_by,
  read_operation,
}
use Rattle.model.specs.declared.Fault.TheVariants.{Form}
use Rattle.model.specs.Num.{Num}
use Rattle.model.specs.Num.{Got, Bad}
use Rattle.model.specs.Parse.{Parse}
use Rattle.model.specs.declared.Operation.{Operation}
use Rattle.model.specs.declared.Family.{Family}
use Rattle.model.specs.declared.Family.TheVariants.{
  Write,
  Copy,
  Create,
  Destroy,
  Activate,
  Deactivate,
  Lock,
  Unlock,
}
use Rattle.model.specs.declared.Actor.{Actor}
use Rattle.model.specs.declared.Actor.TheVariants.{Driver, Device, External}
use Rattle.model.proofs.OldNumbers.{still_read}

-- what was read stays as it is
abbrev Stays : Parse → Parse → Type 0
Stays p p' = p.answer ≡ 0 → p' ≡ p

-- a repeated reader
module _ (f f' : ℕ → ℕ → Operation → Parse)
    (same : (i at : ℕ) (op : Operation) → Stays (f i at op) (f' i at op)) where
  then_stays : (p p' : Parse) (k k' : ℕ → Operation → Parse) → Stays p p'
      → ((at : ℕ) (op : Operation) → Stays (k at op) (k' at op)) → Stays (and_then p k) (and_then p' k')
  unfolding and_then onward
  then_stays p p' k k' e g h = go (eqb p.answer 0) refl h
    where
      go : (t : Bool) → eqb p.answer 0 ≡ t → (onward t k p).answer ≡ 0
          → onward (eqb p'.answer 0) k' p' ≡ onward t k p
      go true z h =
          ap (λ (x : Parse). onward (eqb x.answer 0) k' x) (e (eqb-true p.answer 0 z))
          ∙ (ap (λ (t : Bool). onward t k' p) z ∙ g p.at p.operation h)
      go false z h = absurd (true≢false (sym (eq-eqb p.answer 0 h) ∙ z))

  turns_stay : (n i at : ℕ) (op : Operation) → Stays (turns f n i at op) (turns f' n i at op)
  unfolding turns
  turns_stay zero i at op h = refl
  turns_stay (suc n) i at op h =
      then_stays (f i at op) (f' i at op) (turns f n (i + 1)) (turns f' n (i + 1)) (same i at op)
      (turns_stay n (i + 1)) h

module _ (few most : ℕ) (wider : few ≤ most) (s : List ℕ) where
  number_stays : (at : ℕ) (k k' : ℕ → ℕ → Parse) → ((v next : ℕ) → Stays (k v next) (k' v next))
      → Stays (number_by few s at k) (number_by most s at k')
  unfolding taken refused
  number_stays at k k' g h = go (number_to few s at) refl h
    where
      go : (n : Num) → number_to few s at ≡ n → (taken n k).answer ≡ 0 → taken (number_to most s at) k' ≡ taken n k
      go (Bad f) e h = absurd (omega arith)
      go (Got v next) e h = ap (λ (x : Num). taken x k') (still_read few most wider s at v next e) ∙ g v next h

  count_stays : (at : ℕ) (k k' : ℕ → ℕ → Parse) → ((v next : ℕ) → Stays (k v next) (k' v next))
      → Stays (taken (count_at_by few s at) k) (taken (count_at_by most s at) k')
  unfolding count_at_by counting taken refused
  count_stays at k k' g h = go (number_to few s at) refl h
    where
      fit : (v next : ℕ) (t : Bool) → (taken (cond t (Got v next) (Bad Form)) k).answer ≡ 0
          → taken (cond t (Got v next) (Bad Form)) k' ≡ taken (cond t (Got v next) (Bad Form)) k
      fit v next true h = g v next h
      fit v next false h = absurd (omega arith)

      go : (n : Num) → number_to few s at ≡ n → (taken (counting n) k).answer ≡ 0
          → taken (counting (number_to most s at)) k' ≡ taken (counting n) k
      go (Bad f) e h = absurd (omega arith)
      go (Got v next) e h =
          ap (λ (x : Num). taken (counting x) k') (still_read few most wider s at v next e)
          ∙ fit v next (leb 1 v && leb v most_items) h

  payload_stays : (t u : Bool) (i object at : ℕ) (op : Operation)
      → Stays (payload_by few t u s i object at op) (payload_by most t u s i object at op)
  unfolding payload_by
  payload_stays true u i object at op = number_stays at _ _ λ v next h. refl
  payload_stays false true i object at op = λ h. refl
  payload_stays false false i object at op = λ h. refl

  item_stays : (i at : ℕ) (op : Operation) → Stays (item_by few s i at op) (item_by most s i at op)
  unfolding item_by
  item_stays i at op =
      number_stays at _ _ λ object a.
      number_stays a _ _ λ form c.
      payload_stays (eqb form 0) (eqb form 1) i object c op

  pair_stays : (i at : ℕ) (op : Operation) → Stays (pair_by few s i at op) (pair_by most s i at op)
  unfolding pair_by
  pair_stays i at op = number_stays at _ _ λ source a. number_stays a _ _ λ destination c h. refl

  object_stays : (i at : ℕ) (op : Operation) → Stays (object_by few s i at op) (object_by most s i at op)
  unfolding object_by
  object_stays i at op = number_stays at _ _ λ n a h. refl

  listing_stays : (code at : ℕ) → Stays (listing_by few code s at) (listing_by most code s at)
  unfolding listing_by
  listing_stays code at =
      number_stays at _ _ λ p a.
      count_stays a _ _ λ n c.
      turns_stay (object_by few s) (object_by most s) object_stays n 0 c (with_head code 0 p n)

  one_stays : (code at : ℕ) → Stays (deactivating_by few code s at) (deactivating_by most code s at)
  unfolding deactivating_by
  one_stays code at = number_stays at _ _ λ subject a h. refl

  two_stays : (code at : ℕ) → Stays (activating_by few code s at) (activating_by most code s at)
  unfolding activating_by
  two_stays code at = number_stays at _ _ λ subject a. number_stays a _ _ λ p c h. refl

  partition_stays : (code at : ℕ) → Stays (partitioning_by few code s at) (partitioning_by most code s at)
  unfolding partitioning_by
  partition_stays code at = number_stays at _ _ λ p a h. refl

  arguments_stay : (f : Family) (a : Actor) (code at : ℕ)
      → Stays (arguments_by few f a code s at) (arguments_by most f a code s at)
  unfolding writing_by copying_by
  arguments_stay Write a code at =
      number_stays at _ _ λ subject c.
      count_stays c _ _ λ n d.
      turns_stay (item_by few s) (item_by most s) item_stays n 0 d (with_head code subject 0 n)
  arguments_stay Copy a code at =
      number_stays at _ _ λ subject c.
      count_stays c _ _ λ n d.
      turns_stay (pair_by few s) (pair_by most s) pair_stays n 0 d (with_head code subject 0 n)
  arguments_stay Create a code at = partition_stays code at
  arguments_stay Destroy a code at = partition_stays code at
  arguments_stay Activate Driver code at = two_stays code at
  arguments_stay Activate Device code at = two_stays code at
  arguments_stay Activate External code at = listing_stays code at
  arguments_stay Deactivate Driver code at = one_stays code at
  arguments_stay Deactivate Device code at = one_stays code at
  arguments_stay Deactivate External code at = listing_stays code at
  arguments_stay Lock a code at = one_stays code at
  arguments_stay Unlock a code at = one_stays code at

  only_stays : (t : Bool) (p p' : Parse) → Stays p p' → Stays (only t p) (only t p')
  unfolding only
  only_stays true p p' g = g
  only_stays false p p' g = λ h. refl

  code_stays : (code at : ℕ) → Stays (after_code_by few s code at) (after_code_by most s code at)
  unfolding after_code_by
  code_stays code at =
      only_stays (leb 1 code && leb code most_code) _ _ (arguments_stay (family_of code) (actor_of code) code at)

  pub read_stays : (read_operation_by few s).0 ≡ 0 → read_operation_by most s ≡ read_operation_by few s
  unfolding read_operation_by ended
  read_stays h =
      go (number_by few s 0 (after_code_by few s)) (number_by most s 0 (after_code_by most s))
      (number_stays 0 (after_code_by few s) (after_code_by most s) code_stays) h
    where
      whole : Parse → Parsed
      whole p = ended (eqb p.answer 0 && eqb p.at (length s)) p

      yes-answer : (t u : Bool) (p : Parse) → (ended (t && u) p).0 ≡ 0 → t ≡ true
      yes-answer true u p h = refl
      yes-answer false u p h = absurd (omega arith)

      go : (p p' : Parse) → Stays p p' → (whole p).0 ≡ 0 → whole p' ≡ whole p
      go p p' g h =
          ap whole (g (eqb-true p.answer 0 (yes-answer (eqb p.answer 0) (eqb p.at (length s)) p h)))

-- an operation that could be read before is read as the same
pub old_records : (bytes : List ℕ) → (read_operation_by most_before bytes).0 ≡ 0
    → read_operation bytes ≡ read_operation_by most_before bytes
old_records bytes = read_stays most_before most_number (omega arith) bytes
