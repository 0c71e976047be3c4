mod Boxes
