-- Two drives, one that has turned against a torque and one that has not: they are alike but for what is counted for bit 7 and for flag 7
-- itself, where it is masked.
use mathlib.Core.Path.{◌≡◌, refl, sym, ap, ◌∙◌}
use mathlib.Core.Bool.{Bool, true, false, ◌&&◌, ◌||◌}
use Prim.Native.Nat.{ℕ}
use lib.Bits.{or_zero_r}
use Rattle.faults.specs.Word.{bit, flag, ◌or◌}
use Rattle.faults.proofs.Joined.{or_swap, or_assoc}
use Rattle.settings.specs.Settings.{FaultEnable}
use Rattle.fields.specs.declared.Cycle.{Cycle}
use Rattle.drive.specs.Calls.{becomes, cycled, sample}
use Rattle.drive.specs.Blocks.{marked}
use Rattle.drive.specs.declared.Drive.{Drive}

-- the drive with another count for bit 7, and other flags
abbrev pub eased : Drive → (count flags : ℕ) → Drive
eased d count flags =
    becomes d d.state d.hall flags d.cycles d.ticks d.offsets
    (record {
      slots = d.run.slots;
      rotor_lock_ticks = count;
      hall_still_ticks = d.run.hall_still_ticks;
      reference = d.run.reference;
    })
    d.armed
    d.retries

-- the flags of the one are those of the other and, where it is masked, flag 7
pub record Alike (d other : Drive) : Type 0 where
  pub count : ℕ
  pub flags : ℕ
  pub set : Bool
  pub same : other ≡ eased d count flags
  pub more : d.flags ≡ (flags or flag 7 set)
  pub masked : (set && bit 7 (FaultEnable d.settings)) ≡ false

-- flags and causes, each with its flag 7
pub joined : (f g : ℕ) (x y : Bool) → (f or flag 7 x or (g or flag 7 y)) ≡ (f or (g or 0) or flag 7 (x || y))
joined f g false y =
    rw (or_zero_r f, or_zero_r g) (or_assoc f g (flag 7 y))
joined f g true false = rw (or_zero_r g) (or_swap f (flag 7 true) g)
joined f g true true =
    let seventh : ℕ = flag 7 true in
    or_assoc (f or seventh) g seventh
    ∙ ap (λ (word : ℕ). word or seventh) (or_swap f seventh g)
    ∙ sym (or_assoc (f or g) seventh seventh)
    ∙ rw (or_zero_r g)

pub itself : (d : Drive) → Alike d d
itself d =
    record {
      count = d.run.rotor_lock_ticks;
      flags = d.flags;
      set = false;
      same = refl;
      more = sym (or_zero_r d.flags);
      masked = refl;
    }

-- a call that adds flags to both, and else changes both alike
module _ (d other : Drive) (a : Alike d other) where
  adds :
      (new : ℕ) (after after' : Drive)
      → after.flags ≡ (d.flags or new)
      → after.settings ≡ d.settings
      → after' ≡ eased after a.count (a.flags or new)
      → Alike after after'
  adds new after after' flags settings same =
      record {
        count = a.count;
        flags = a.flags or new;
        set = a.set;
        same = same;
        more = flags ∙ ap (λ (flags : ℕ). flags or new) a.more ∙ or_swap a.flags (flag 7 a.set) new;
        masked = rw settings a.masked;
      }

  pub cycled_alike : (c : Cycle) → Alike (cycled d c) (cycled other c)
  unfolding cycled
  cycled_alike c = adds (flag 15 (sample d c).flagged) (cycled d c) (cycled other c) refl refl (rw a.same)

  pub marked_alike : Alike (marked d) (marked other)
  marked_alike = adds (flag 12 true) (marked d) (marked other) refl refl (rw a.same)
