use Rattle.scfs_erasure.proofs.ContentLemmas.{joined_rows, fits_in_rows, get_or-piece, length-piece, map-piece-first}
use Rattle.scfs_erasure.proofs.ContentLemmas.{AreEnough-some, rows_from-some, contents_from-some, size_of-enough}
use Rattle.scfs_erasure.proofs.laws.erasure_laws.Goals as goal

pub returns : goal.returns
returns c =
    record {
      rows = joined_rows;
      row_lengths = fits_in_rows;
      piece = get_or-piece;
      piece_lengths = length-piece;
      first_pieces = map-piece-first;
      enough = AreEnough-some;
      same_rows = rows_from-some;
      gives_back = contents_from-some;
      size = size_of-enough;
    }
