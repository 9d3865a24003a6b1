-- The bytes that tell of a transfer read as the operation that tells of it.
use Prim.Native.Nat.{ℕ, ◌+◌, ◌*◌, ◌≤◌}
use mathlib.Core.Path.{◌≡◌, refl, sym, ap, ◌∙◌, subst}
use mathlib.Core.List.{List, [], ◌++◌, append-nil}
use mathlib.Core.Bool.{Bool, true, false, ◌&&◌}
use native.Mathlib.Omega.{arith}
use lib.ListN.{length, take, drop, replicate, length-append, length-replicate}
use lib.Seq.{drop-drop, drop-append_seam, sets, sets-eq, take-length}
use lib.Dec.{eqb}
use borrow.Author.Tests.{eqb-true, eqb-false, eq-eqb, le-leb}
use Rattle.model.specs.Number.{most_number, bytes_of}
use Rattle.model.specs.Config.{kind_of}
use Rattle.model.specs.State.{content_bytes, State, window}
use Rattle.model.specs.Operation.{
  most_items,
  with_head,
  with_item,
  with_raw,
  read,
  taken,
  number,
  counting,
  count_at_by,
  count_at,
  only,
  onward,
  and_then,
  turns,
  raw_item,
  payload_by,
  item_by,
  item,
  pair_by,
  pair,
  writing_by,
  copying_by,
  after_code_by,
  after_code,
  Parsed,
  ended,
  read_operation_by,
  read_operation,
}
use Rattle.sources.specs.Gate.{Source, config_of, file_source}
use Rattle.model.specs.Trace.{Transfer, Described}
use Rattle.sources.specs.Reports.{Reports, report_code, report_end, ReportReadableOn, ReportReadable}
use Rattle.model.specs.Num.{Num}
use Rattle.model.specs.Parse.{Parse}
use Rattle.model.specs.declared.Config.{Config}
use Rattle.model.specs.declared.Operation.{Operation}
use Rattle.model.proofs.Lists.{from1to-high}
use Rattle.model.proofs.NumberBytes.{Here, number_read}
use Rattle.model.proofs.StateLaws.{window_at}
use Rattle.model.proofs.Accepted.{Sound}
use Rattle.sources.proofs.Stores.{Kept}
use Rattle.model.proofs.Formed.{Formed}
use Rattle.sources.proofs.Sources.{Fits, file-fits}
use Rattle.sources.proofs.Calls.{fresh_zero}
use Rattle.sources.proofs.Reached.{reached_state}
use Rattle.sources.proofs.Reports.{readable-device, entry_range}

module _ (s : List ℕ) where
  -- s from a place on is l, and ends with it
  abbrev At : ℕ → List ℕ → Type 0
  At at l = Here s (length s) at l

  onto : (at : ℕ) (r l : List ℕ) → At at (r ++ l) → At (at + length r) l
  onto at r l h = record {
    rest = sym (drop-drop (length r) at s) ∙ (ap (drop (length r)) h.rest ∙ drop-append_seam r l);
    total = let e = length-append r l in let t = h.total in omega arith;
  }

  -- a number, a count of 1
  number_on : (at v : ℕ) (l : List ℕ) (k : ℕ → ℕ → Parse) → v ≤ most_number → At at (bytes_of v ++ l)
      → number s at k ≡ k v (at + length (bytes_of v))
  unfolding taken
  number_on at v l k m h = ap (λ (n : Num). taken n k) (number_read s at v l m h.rest)

  count_on : (at : ℕ) (l : List ℕ) (k : ℕ → ℕ → Parse) → At at (bytes_of 1 ++ l)
      → taken (count_at s at) k ≡ k 1 (at + length (bytes_of 1))
  unfolding taken count_at_by counting
  count_on at l k h = ap (λ (n : Num). taken (counting n) k) (number_read s at 1 l (omega arith) h.rest)

  -- one item
  one_turn : (f : ℕ → ℕ → Operation → Parse) (at next : ℕ) (op op' : Operation) → f 0 at op ≡ read next op'
      → turns f 1 0 at op ≡ read next op'
  unfolding turns and_then onward read
  one_turn f at next op op' e = ap (λ (p : Parse). and_then p (turns f 0 1)) e

  -- read to the last byte
  whole : (at : ℕ) (op : Operation) → number s 0 (after_code s) ≡ read at op → At at [] → read_operation s ≡ (0, op)
  unfolding read_operation_by read ended
  whole at op e h =
      ap (λ (p : Parse). ended (eqb p.answer 0 && eqb p.at (length s)) p) e
      ∙ ap (λ (t : Bool). ended t (read at op)) (eq-eqb at (length s) (let t = h.total in omega arith))

  -- code, device, count and object
  module _ (code device object : ℕ) (end : List ℕ) (few : device ≤ most_number) (small : object ≤ most_number)
      (h : At 0 (bytes_of code ++ (bytes_of device ++ (bytes_of 1 ++ (bytes_of object ++ end))))) where
    abbrev a₁ : ℕ
    a₁ = 0 + length (bytes_of code)

    abbrev a₂ : ℕ
    a₂ = a₁ + length (bytes_of device)

    abbrev a₃ : ℕ
    a₃ = a₂ + length (bytes_of 1)

    abbrev a₄ : ℕ
    a₄ = a₃ + length (bytes_of object)

    h₁ : At a₁ (bytes_of device ++ (bytes_of 1 ++ (bytes_of object ++ end)))
    h₁ = onto 0 (bytes_of code) _ h

    h₂ : At a₂ (bytes_of 1 ++ (bytes_of object ++ end))
    h₂ = onto a₁ (bytes_of device) _ h₁

    h₃ : At a₃ (bytes_of object ++ end)
    h₃ = onto a₂ (bytes_of 1) _ h₂

    h₄ : At a₄ end
    h₄ = onto a₃ (bytes_of object) _ h₃

    write_on : code ≡ 2 → (next : ℕ) (op : Operation)
        → item s 0 a₃ (with_head 2 device 0 1) ≡ read next op → At next [] → read_operation s ≡ (0, op)
    unfolding after_code_by only writing_by
    write_on c next op e g =
        whole next op
        (number_on 0 code _ (after_code s) (omega arith) h
        ∙ (ap (λ (k : ℕ). after_code s k a₁) c
        ∙ (number_on a₁ device _ _ few h₁
        ∙ (count_on a₂ _ _ h₂
        ∙ one_turn (item s) a₃ next (with_head 2 device 0 1) op e)))) g

    read_on : code ≡ 4 → (next : ℕ) (op : Operation)
        → pair s 0 a₃ (with_head 4 device 0 1) ≡ read next op → At next [] → read_operation s ≡ (0, op)
    unfolding after_code_by only copying_by
    read_on c next op e g =
        whole next op
        (number_on 0 code _ (after_code s) (omega arith) h
        ∙ (ap (λ (k : ℕ). after_code s k a₁) c
        ∙ (number_on a₁ device _ _ few h₁
        ∙ (count_on a₂ _ _ h₂
        ∙ one_turn (pair s) a₃ next (with_head 4 device 0 1) op e)))) g

  -- ended by a value number, by sixteen bytes, by destination 0
  value_read : (device object v : ℕ) → device ≤ most_number → object ≤ most_number → v ≤ most_number
      → At 0 (bytes_of 2 ++ (bytes_of device ++ (bytes_of 1 ++ (bytes_of object ++ (bytes_of 0 ++ bytes_of v)))))
      → read_operation s ≡ (0, with_item (with_head 2 device 0 1) 0 object v 0)
  unfolding item_by payload_by
  value_read device object v few small low h =
      let at = a₄ 2 device object (bytes_of 0 ++ bytes_of v) few small h in
      let g = h₄ 2 device object (bytes_of 0 ++ bytes_of v) few small h in
      let g₁ = onto at (bytes_of 0) (bytes_of v) g in
      let g₂ : At (at + length (bytes_of 0)) (bytes_of v ++ []) =
      subst (At (at + length (bytes_of 0))) (sym (append-nil (bytes_of v))) g₁ in
      write_on 2 device object (bytes_of 0 ++ bytes_of v) few small h refl
      (at + length (bytes_of 0) + length (bytes_of v)) (with_item (with_head 2 device 0 1) 0 object v 0)
      (number_on _ object _ _ small (h₃ 2 device object (bytes_of 0 ++ bytes_of v) few small h)
      ∙ (number_on at 0 _ _ (omega arith) g
      ∙ number_on (at + length (bytes_of 0)) v [] _ low g₂))
      (onto (at + length (bytes_of 0)) (bytes_of v) [] g₂)

  bytes_read : (device object : ℕ) (bytes : List ℕ) → device ≤ most_number → object ≤ most_number
      → length bytes ≡ content_bytes
      → At 0 (bytes_of 2 ++ (bytes_of device ++ (bytes_of 1 ++ (bytes_of object ++ (bytes_of 1 ++ bytes)))))
      → read_operation s ≡ (0, with_raw (with_item (with_head 2 device 0 1) 0 object 0 1) 0 bytes)
  unfolding item_by payload_by raw_item only
  bytes_read device object bytes few small sixteen h =
      let at = a₄ 2 device object (bytes_of 1 ++ bytes) few small h in
      let g = h₄ 2 device object (bytes_of 1 ++ bytes) few small h in
      let g₁ = onto at (bytes_of 1) bytes g in
      let from = at + length (bytes_of 1) in
      let g₂ : At from (bytes ++ []) = subst (At from) (sym (append-nil bytes)) g₁ in
      let g₃ : At (from + content_bytes) [] =
      subst (λ (n : ℕ). At (from + n) []) sixteen (onto from bytes [] g₂) in
      let same : take content_bytes (drop from s) ≡ bytes =
      ap (take content_bytes) g₁.rest ∙ subst (λ (n : ℕ). take n bytes ≡ bytes) sixteen (take-length bytes) in
      write_on 2 device object (bytes_of 1 ++ bytes) few small h refl (from + content_bytes)
      (with_raw (with_item (with_head 2 device 0 1) 0 object 0 1) 0 bytes)
      (number_on _ object _ _ small (h₃ 2 device object (bytes_of 1 ++ bytes) few small h)
      ∙ (number_on at 1 _ _ (omega arith) g
      ∙ (ap (λ (t : Bool). only t (read (from + content_bytes)
      (with_raw (with_item (with_head 2 device 0 1) 0 object 0 1) 0 (take content_bytes (drop from s)))))
      (le-leb (from + content_bytes) (length s) (let t = g₃.total in omega arith))
      ∙ ap (λ (l : List ℕ). read (from + content_bytes)
      (with_raw (with_item (with_head 2 device 0 1) 0 object 0 1) 0 l)) same)))
      g₃

  nowhere-read : (device object : ℕ) → device ≤ most_number → object ≤ most_number
      → At 0 (bytes_of 4 ++ (bytes_of device ++ (bytes_of 1 ++ (bytes_of object ++ bytes_of 0))))
      → read_operation s ≡ (0, with_item (with_head 4 device 0 1) 0 object 0 0)
  unfolding pair_by
  nowhere-read device object few small h =
      let at = a₄ 4 device object (bytes_of 0) few small h in
      let g : At at (bytes_of 0 ++ []) =
      subst (At at) (sym (append-nil (bytes_of 0))) (h₄ 4 device object (bytes_of 0) few small h) in
      read_on 4 device object (bytes_of 0) few small h refl (at + length (bytes_of 0))
      (with_item (with_head 4 device 0 1) 0 object 0 0)
      (number_on _ object _ _ small (h₃ 4 device object (bytes_of 0) few small h)
      ∙ number_on at 0 [] _ (omega arith) g)
      (onto at (bytes_of 0) [] g)

-- the first sixteen raw bytes
raw_window : (bytes : List ℕ) → length bytes ≡ content_bytes
    → window content_bytes (sets (replicate (content_bytes * most_items) 0) (content_bytes * 0) bytes) ≡ bytes
raw_window bytes e =
    ap (window content_bytes)
    (sets-eq bytes (replicate (content_bytes * most_items) 0) (content_bytes * 0)
    (omega (arith, e, length-replicate {A = ℕ} (content_bytes * most_items) 0)))
    ∙ window_at bytes _ content_bytes e

-- a transfer that is described, in a state as calls leave it
module _ {room : ℕ} (config : Config) (sound : Sound config) (b : State) (kept : Kept room config b)
    (formed : Formed room config b) (t : Transfer) (d : Described config b t) where
  few : t.device ≤ most_number
  few =
      omega (
        arith,
        from1to-high t.device config.counts.devices
            (readable-device config sound b kept formed d.readable),
        sound.few.devices,
      )

  small : t.object ≤ most_number
  small =
      omega (
        arith,
        from1to-high t.object config.counts.objects
            (entry_range config sound b kept formed t d).0,
        sound.few.objects,
      )

  low : t.entry.value ≤ most_number
  low = omega (arith, (entry_range config sound b kept formed t d).1, sound.few.values)

  abbrev bytes_for : Bool → Bool → List ℕ
  bytes_for w one =
      bytes_of (report_code w) ++ (bytes_of t.device ++ (bytes_of 1 ++ (bytes_of t.object ++ report_end w one t)))

  start : (s : List ℕ) → Here s (length s) 0 s
  start s = record { rest = refl; total = omega arith }

  abbrev Read : Bool → Parsed → Type 0
  Read w r = (r.0 ≡ 0) × Reports w config t r.1

  bytes_tell : (w one : Bool) → eqb (kind_of config t.object) 1 ≡ one → Read w (read_operation (bytes_for w one))
  unfolding with_item with_raw with_head
  bytes_tell true true e =
      subst (Read true)
      (sym (value_read (bytes_for true true) t.device t.object t.entry.value few small low
      (start (bytes_for true true)))) (
        refl,
        record {
          code = refl;
          device = refl;
          one = refl;
          object = refl;
          value = λ k. (refl, refl);
          bytes = λ n. absurd (n (eqb-true (kind_of config t.object) 1 e));
        },
      )
  bytes_tell true false e =
      subst (Read true)
      (sym (bytes_read (bytes_for true false) t.device t.object t.bytes few small d.sixteen
      (start (bytes_for true false)))) (
        refl,
        record {
          code = refl;
          device = refl;
          one = refl;
          object = refl;
          value = λ k. absurd (eqb-false (kind_of config t.object) 1 e k);
          bytes = λ n. (refl, raw_window t.bytes d.sixteen);
        },
      )
  bytes_tell false one e =
      subst (Read false)
      (sym (nowhere-read (bytes_for false one) t.device t.object few small (start (bytes_for false one))))
      (refl, record { code = refl; device = refl; one = refl; object = refl; nowhere = refl })

-- the theorem
pub report_readable_on : (source : Source) → Fits source → ReportReadableOn source
report_readable_on source fits area h calls t d answer l =
    let s = reached_state source fits area h calls in
    let r =
    bytes_tell (config_of source) (fits.sound (fresh_zero source area h).0) _ s.0 s.1 t d t.writing
    (eqb (kind_of (config_of source) t.object) 1) refl in
    record { readable = r.0; reports = r.1; roomy = l }

-- of every file
pub report_readable : ReportReadable
report_readable file = report_readable_on (file_source file) (file-fits file)
