-- The 6502 as a kind of machine: what it does to an image is what the processor does that the image holds.
use Rattle.machine.specs.Kinds.{Kind}
use Rattle.mos6502_core.specs.Instructions.{stepped, transfers}
use Rattle.mos6502.specs.Images.{image_of, cpu_of, lawful_image, offending_offset, blank_image}
use Rattle.mos6502.specs.Events.{hears, taken_event}

abbrev pub mos6502 : Kind
mos6502 =
    record {
      size = 4106;
      guest = 1;
      lawful = lawful_image;
      offending = offending_offset;
      blank = blank_image;
      place = λ i. (cpu_of i).place;
      stopped = λ i. (cpu_of i).stopped;
      ready = λ event i. hears event (cpu_of i);
      lamp = λ i. (cpu_of i).memory.lamp;
      next = λ i. image_of (stepped (cpu_of i));
      transfers = λ i. transfers (cpu_of i);
      taken = λ event i. image_of (taken_event event (cpu_of i));
    }
