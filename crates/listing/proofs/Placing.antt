-- Texts placed one after another are placed as one.
use Rattle.std.proofs.Common.{◌≡◌, ℕ, ◌+◌, ◌≤◌, List, [], ◌++◌, length, sym, refl, ap, ◌∙◌, add-zero, arith, length-append}
use lib.Seq.{paste}
use Rattle.std.proofs.lemmas.List.Edits.{paste_all, paste-paste}
use Rattle.std.proofs.lemmas.List.{take-append-drop}
use Rattle.listing.specs.declared.pen.Pen.{Pen}
use Rattle.listing.specs.Listing.{placed, Put}
use Rattle.listing.specs.Pens.{Writes}

-- nothing
put_none : (held : List ℕ) (k : ℕ) → Put held k [] held k
put_none held k = record { after = rw (add-zero, take-append-drop); end = sym (add-zero k) }

placed_placed : (held s t : List ℕ) (k : ℕ) → k ≤ length held → placed (placed held k s) (k + length s) t ≡ placed held k (s ++ t)
placed_placed held s t k h =
    sym (paste_all (placed held k s) (k + length s) t (length t) refl)
    ∙ ap (λ o. paste o (k + length s) t (length t)) (sym (paste_all held k s (length s) refl))
    ∙ paste-paste held k s t (length s) (length t) refl refl h
    ∙ ap (λ n. paste held k (s ++ t) n) (sym (length-append s t))
    ∙ paste_all held k (s ++ t) (length (s ++ t)) refl

-- a text, and then one where the first ended
pub put_then : {held s t one two : List ℕ} {k m n : ℕ} → k ≤ length held → Put held k s one m → Put one m t two n → Put held k (s ++ t) two n
put_then {held = held} {s = s} {t = t} {one = one} {k = k} {m = m} h p q =
    record {
      after = q.after ∙ ap (λ o. placed o m t) p.after ∙ ap (λ i. placed (placed held k s) i t) p.end ∙ placed_placed held s t k h;
      end = q.end ∙ simp length-append (omega arith);
    }

-- a pen that writes nothing, and one that writes a text and then another
pub writes_none : (pen : Pen) → Writes pen pen []
writes_none pen = record { size = refl; same = refl; put = put_none pen.out.now pen.at }

pub writes_then : {a b c : Pen} {s t : List ℕ} → a.at ≤ length a.out.now → Writes a b s → Writes b c t → Writes a c (s ++ t)
writes_then h w v = record { size = v.size ∙ w.size; same = v.same ∙ w.same; put = put_then h w.put v.put }
