-- What C gets of the functions that it lends lists, function by function.
use Rattle.found_links.proofs.GivenLists.{given_left}
use Rattle.c_answers.proofs.ListsTold as answers
use Rattle.exports.proofs.ListsTold as exports
use Rattle.c_promises.specs.ListsTold.{ListsTold}

pub lists_told : ListsTold
lists_told =
    record {
      run = λ table d q trace ins drops outs number ins' drops' outs' by. (
        answers.run_told table d q trace ins drops outs number ins' drops' outs' by,
        answers.run_left table d q trace ins drops outs number ins' drops' outs' by,
      );
      path = λ stages first second third fourth d q trace ins drops outs number ins' drops' outs' by. (
        answers.path_told stages first second third fourth d q trace ins drops outs number ins' drops' outs' by,
        answers.path_left stages first second third fourth d q trace ins drops outs number ins' drops' outs' by,
      );
      square = λ square d q trace ins drops outs number ins' drops' outs' by. (
        exports.square_told square d q trace ins drops outs number ins' drops' outs' by,
        exports.square_left square d q trace ins drops outs number ins' drops' outs' by,
      );
      pencil = λ table d q trace ins drops outs number ins' drops' outs' by. (
        exports.pencil_told table d q trace ins drops outs number ins' drops' outs' by,
        exports.pencil_left table d q trace ins drops outs number ins' drops' outs' by,
      );
      listing = λ slots list number list' by. (exports.listing_told slots list number list' by, exports.listing_told_left slots list number list' by);
      worst = λ table d q n p N list answer list' by. (
        exports.worst_told table d q n p N list answer list' by,
        exports.worst_told_left table d q n p N list answer list' by,
      );
      port = λ deadlines slots capacity input sent late number sent' late' by. (
        λ none. (
          answers.port_told deadlines slots capacity input sent late number sent' late' by none,
          answers.port_told_meets deadlines slots capacity input sent late number sent' late' by none,
        ),
        answers.port_told_left deadlines slots capacity input sent late number sent' late' by,
      );
      find = λ table d q trace t slots marks amounts answer slots' marks' amounts' by. (
        exports.find_told table d q trace t slots marks amounts answer slots' marks' amounts' by,
        exports.find_told_left table d q trace t slots marks amounts answer slots' marks' amounts' by,
      );
      certify = λ table d q trace from by gone number from' by' gone' given. given_left table d q trace from by gone from' by' gone' number given;
      part = λ file. (answers.part_told file, answers.part_left file);
    }
