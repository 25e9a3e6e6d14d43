-- What is read of bytes and of readers.
use Rattle.std.proofs.Common.{◌≡◌, ℕ, List, Option, Result, Ok, Err, refl, sym, subst}
use Rattle.std.specs.Prelude.{IsErrAnd, IsUtf8, OnOk}
use Rattle.json5_types.specs.declared.error.Error.{Error}
use Rattle.json5_walk.specs.Walks.{IsDocumentWithin}
use Rattle.json5_io.specs.Bytes.{RefusesBytes}
use Rattle.json5_io.specs.Readers.{RefusesReader}
use Rattle.json5_serde.specs.Bytes.{ReadsBytes, ReadsReader, no_text}

pub bytes_refused : {A : Type 0} (limit : ℕ) (bytes : List ℕ) (e : Error) (r : Result A Error) → IsErrAnd r (λ y. y ≡ e) → RefusesBytes bytes e → ReadsBytes limit bytes r
bytes_refused limit bytes e (Ok v) h f = absurd h
bytes_refused limit bytes e (Err y) h f = λ wrong. subst (RefusesBytes bytes) (sym h) f

pub bytes_read : {A : Type 0} (limit : ℕ) (bytes text : List ℕ) (r : Result A Error) → text ≡ bytes → IsUtf8 bytes → OnOk r (IsDocumentWithin limit text) → ReadsBytes limit bytes r
bytes_read limit bytes text (Ok v) same u document = (u, subst (IsDocumentWithin limit) same document)
bytes_read limit bytes text (Err e) same u document = λ wrong. absurd (wrong u)

pub reader_refused : {A : Type 0} (limit : ℕ) (known : Option (List ℕ)) (e : Error) (r : Result A Error) → IsErrAnd r (λ y. y ≡ e) → RefusesReader known e → ReadsReader limit known r
reader_refused limit known e (Ok v) h f = absurd h
reader_refused limit known e (Err y) h f = no_text y refl (subst (RefusesReader known) (sym h) f)
