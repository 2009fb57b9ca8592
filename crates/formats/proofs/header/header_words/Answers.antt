use native.Mathlib.Omega.{arith}
use mathlib.Core.Path.{sym}
use Rattle.formats.proofs.laws.Format.{phase_header_lem, arrival_header_lem}
use Rattle.formats.specs.Words.{bytes_of}
use Rattle.formats.specs.Header.{phase_header, arrival_header, spaced_from}
use borrow.Author.Rules.{rules}
use Rattle.formats.proofs.header.header_words.Goals as goal

pub returns-in-5 : goal.returns-in-5
unfolding arrival_header spaced_from bytes_of
returns-in-5 c =
    record { words = sym (arrival_header_lem c.args.kind c.in-5.is); size = omega arith }

pub returns-in_default : goal.returns-in_default
unfolding phase_header spaced_from bytes_of
returns-in_default c =
    record { words = sym (phase_header_lem c.args.kind (search rules)); size = omega arith }
