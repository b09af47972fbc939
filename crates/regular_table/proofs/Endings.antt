-- The text for a script by how its setup ends, for the source as the script's reader keeps it.
use Rattle.std.proofs.Common.{◌≡◌, ℕ, zero, suc, List, true, false, length, get_or, take, eqb, refl}
use Rattle.std.specs.Borrow.{MutBor}
use Rattle.refusal.specs.Numbers.{number}
use Rattle.refusal.specs.declared.Refusal.{Refusal}
use Rattle.topology.specs.Reader.{fault}
use Rattle.topology.proofs.PrefixFault.{prefix-fault, prefix_whole}
use Rattle.text.specs.declared.Text.{Text}
use Rattle.text.specs.Appending.{Begins, Appends}
use Rattle.text.proofs.Appending.{puts_all}
use Rattle.script_lines.specs.Lines.{no_line}
use Rattle.script_setup.specs.Gathering.{gathered, Draws}
use Rattle.script_setup.specs.declared.Drawing.{Drawing}
use Rattle.script_setup.specs.declared.Ending.{Ending}
use Rattle.script_setup.specs.declared.Ending.TheVariants.{End, Refused, Compile}
use Rattle.regular_table.specs.Table.{TableBy, Table, ending, TextBy, Prints, Writes}
use Rattle.regular_table.specs.InnerTable.{Adds}

-- One byte more is kept than a source may have. So the kept bytes have the source's fault and, if there is none, they are the source.
table_kept : (source : List ℕ) (at : ℕ) (text : List ℕ) → Table (take 33 source) at text → Table source at text
table_kept source at text h = by_fault (fault 32 source) refl (rw (prefix-fault 32 source) at h)
  where
    by_fault : (f : ℕ) → fault 32 source ≡ f → TableBy f (take 33 source) at text → TableBy f source at text
    by_fault zero e t = rw (prefix_whole 32 source e) at t
    by_fault (suc f) e t = t

adds_as : {Is Js : List ℕ → Type 0} {before after : Text} → ((bytes : List ℕ) → Is bytes → Js bytes) → Adds Is before after → Adds Js before after
adds_as f a = record { bytes = a.bytes; is = f a.bytes a.is; appends = a.appends }

module _ (script : List ℕ) (d : Drawing) (before after : Text)
    (w : Draws d (gathered script).source (gathered script).target (gathered script).limit) where
  -- the table of the kept source at an offset is that of the source
  whole_table : (at : ℕ) → Adds (Table d.source.items at) before after → Adds (Table (gathered script).source at) before after
  whole_table at = adds_as (λ bytes t. table_kept (gathered script).source at bytes (rw w.source at t))

  prints : (e : Ending) → (gathered script).ending ≡ e → Adds (TextBy (ending script e) script (gathered script).source) before after
      → Adds (Prints script) before after
  prints e q = adds_as (λ bytes t. rw q t)

  pub ends_with-script : (gathered script).ending ≡ End → Adds (Table d.source.items (length script)) before after → Adds (Prints script) before after
  ends_with-script q a = prints End q (whole_table (length script) a)

  pub ends_compiled : (at : ℕ) → (gathered script).ending ≡ Compile at → Adds (Table d.source.items at) before after
      → Adds (Prints script) before after
  ends_compiled at q a = prints (Compile at) q (whole_table at a)

  module _ (r : Refusal) (at : ℕ) (q : (gathered script).ending ≡ Refused r at) where
    -- an 04 without a limit
    pub ends_unlimited : eqb (get_or script at 0) 4 ≡ true → Adds (Table d.source.items at) before after → Adds (Prints script) before after
    ends_unlimited b a = prints (Refused r at) q (rw b (whole_table at a))

    pub ends_refused : eqb (get_or script at 0) 4 ≡ false → Appends before (no_line (number r) at) after → Adds (Prints script) before after
    ends_refused b p = prints (Refused r at) q (rw b record { bytes = no_line (number r) at; is = refl; appends = p })

-- a text that began with a buffer
pub writes : {Is : List ℕ → Type 0} {buffer : MutBor (List ℕ)} {first last : Text} {out : List ℕ} {place : ℕ} → Begins buffer 0 first
    → Adds Is first last → out ≡ last.out.now → place ≡ last.at → Writes Is buffer.now 0 out place
writes b a e f = record { text = a.bytes; is = a.is; puts = puts_all b a.appends e f }
